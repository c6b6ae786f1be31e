-- Laws of requests: how what the code reads of a line, token by token, is what the grammar says of all its tokens.
use Prim.Native.Nat.{ℕ}
use mathlib.Core.Path.{◌≡◌, refl, sym, subst, ◌∙◌}
use mathlib.Core.List.{List, [], ◌∷◌}
use native.Mathlib.Omega.{arith}
use borrow.Author.Tests.{eq-eqb, ne_eqb}
use lib.ListN.{length, get_or, take}
use Rattle.text.specs.Bytes.{bytes}
use Rattle.text.specs.Token.{tokens, Cuts, same_bytes}
use Rattle.text.proofs.Digits.{both as same-either}
use Rattle.text.proofs.Tokens.{not-empty}
use Rattle.requests.specs.declared.Request.{Request}
use Rattle.requests.specs.declared.Request.TheVariants as request
use Rattle.requests.specs.Named.{Named}
use Rattle.requests.specs.Verb.{Fit}
use Rattle.text.proofs.Cut.{after, alone, cut_off}
use Rattle.protocol.proofs.Fits.{fits}
use Rattle.protocol.specs.Request.{verb_of, pending_alone, line_of, request_of, line_fills, word_fills, mark_fills, coordinates_of, words_of, marks_in, Reads}

-- the request of a line, with as much room as the lists have
abbrev asked_by : Named → List ℕ → Request
asked_by l s = request_of (length l.coordinates) (length l.words) (length l.marks) s

abbrev asked_in : Named → List (List ℕ) → Request
asked_in l ts = line_of (length l.coordinates) (length l.words) (length l.marks) ts

abbrev asked_of : Named → List ℕ → List (List ℕ) → Request
asked_of l v ts = verb_of (length l.coordinates) (length l.words) (length l.marks) v ts

-- what the lists hold after the line s, and after the tokens ts
pub record Filled (s : List ℕ) (l l' : Named) : Type 0 where
  pub fills : l'.coordinates ≡ coordinates_of s l.coordinates
  pub puts : l'.words ≡ words_of s l.words
  pub marks : l'.marks ≡ marks_in s l.marks

pub record FilledBy (ts : List (List ℕ)) (l l' : Named) : Type 0 where
  pub fills : l'.coordinates ≡ line_fills ts l.coordinates
  pub puts : l'.words ≡ word_fills ts l.words
  pub marks : l'.marks ≡ mark_fills ts l.marks

read_is : {s : List ℕ} {l l' : Named} {r : Request} → r ≡ asked_by l s → Filled s l l' → Reads s l r l'
read_is {s} {l} e f =
    record {
      is = e;
      fills = f.fills;
      puts = f.puts;
      marks = f.marks;
      fit = subst (Fit (length l.coordinates)) (sym e) (fits (length l.coordinates) (length l.words) (length l.marks) s);
    }

pub empty-line : (s : List ℕ) (l : Named) → length s ≡ 0 → Reads s l request.Nothing l
unfolding request_of coordinates_of words_of marks_in
empty-line [] l h = read_is refl (record { fills = refl; puts = refl; marks = refl })
empty-line (b ∷ s) l h = absurd (omega arith)

module _ (s : List ℕ) (l : Named) (some : length s ≡ 0 → ⊥) where
  pub comment : get_or s 0 0 ≡ 35 → Reads s l request.Nothing l
  unfolding request_of coordinates_of words_of marks_in
  comment e = by s some e where
    by : (s : List ℕ) → (length s ≡ 0 → ⊥) → get_or s 0 0 ≡ 35 → Reads s l request.Nothing l
    by [] h e = absurd (h refl)
    by (b ∷ s) h e = let is = eq-eqb b 35 e in read_is (simp is) (record { fills = simp is; puts = simp is; marks = simp is })

  module _ (no-comment : get_or s 0 0 ≡ 35 → ⊥) where
    by-tokens : {l' : Named} {r : Request} → r ≡ asked_in l (tokens s) → FilledBy (tokens s) l l' → Reads s l r l'
    unfolding request_of coordinates_of words_of marks_in
    by-tokens {l'} {r} = by s some no-comment where
      by : (s : List ℕ) → (length s ≡ 0 → ⊥) → (get_or s 0 0 ≡ 35 → ⊥) → r ≡ asked_in l (tokens s) → FilledBy (tokens s) l l' → Reads s l r l'
      by [] h e f g = absurd (h refl)
      by (b ∷ s) h e f g =
          let is = ne_eqb b 35 e in
          read_is (f ∙ sym (simp is)) (record { fills = g.fills ∙ sym (simp is); puts = g.puts ∙ sym (simp is); marks = g.marks ∙ sym (simp is) })

    pub line-alone : {n : ℕ} {r : Request} → Cuts 32 s n → n ≡ length s → r ≡ pending_alone s → Reads s l r l
    line-alone cut h e = by-tokens (e ∙ sym (rw (alone cut h))) (rw (alone cut h) stays)
      where
        stays : FilledBy (s ∷ []) l l
        stays =
            record {
              fills =
                  rw (← same-either (same_bytes s (bytes "piece")) l.coordinates)
                  (rw (← same-either (same_bytes s (bytes "list")) l.coordinates) (same-either (same_bytes s (bytes "marked")) l.coordinates));
              puts = rw (← same-either (same_bytes s (bytes "list")) l.words) (same-either (same_bytes s (bytes "marked")) l.words);
              marks = same-either (same_bytes s (bytes "marked")) l.marks;
            }

    pub line-more : {n : ℕ} {r : Request} {l' : Named} → Cuts 32 s n → (n ≡ length s → ⊥) → r ≡ asked_of l (take n s) (tokens (after n s))
        → FilledBy (take n s ∷ tokens (after n s)) l l' → Reads s l r l'
    line-more {n} cut h e f = by-tokens (e ∙ sym (rw (cut_off cut h) (more (tokens (after n s)) (not-empty (after n s))))) (rw (cut_off cut h) f) where
      more : (ts : List (List ℕ)) → (length ts ≡ 0 → ⊥) → asked_in l (take n s ∷ ts) ≡ asked_of l (take n s) ts
      more [] g = absurd (g refl)
      more (t ∷ ts) g = refl
