-- Laws of the readers: how what the code reads of a text, token by token, is what the grammar says of all its tokens.
use Prim.Native.Nat.{ℕ, suc, ◌<◌}
use mathlib.Core.Path.{◌≡◌, refl, sym, ◌∙◌}
use mathlib.Core.Bool.{Bool, true, false, cond}
use mathlib.Core.List.{List, [], ◌∷◌}
use native.Mathlib.Omega.{arith}
use borrow.Author.Tests.{ltb-true, ltb-false}
use lib.Dec.{ltb}
use lib.IntN.{ℤ}
use lib.ListN.{length, take, drop}
use lib.Seq.{take_all}
use Rattle.text.specs.Bytes.{bytes}
use Rattle.text.specs.Token.{tokens, length_before, Cuts, same_bytes}
use Rattle.text.specs.Number.{hex_of}
use Rattle.number_lists.specs.Many.{whole_in, number_in, many_of, Lists}
use Rattle.line_fields.specs.Row.{Row}
use Rattle.text.proofs.Tokens.{last-token, more-tokens, first-token, not-empty, spaced-number, spaced-hex, at-most-all}
use Rattle.text.proofs.Cut.{after, alone, cut_off}
use Rattle.std.specs.Prelude.{Option, Some, None, unwrap_or}
use Rattle.requests.specs.declared.Request.{Request}
use Rattle.requests.specs.declared.Request.TheVariants as request
use Rattle.requests.specs.Verb.{unless_unread, any_number, cap_number, just, both, one, two, coordinate_fills, marked_fills, marks_after, marks_of, list_fills}
use Rattle.requests.specs.Verb.{heard_of, piece_of, marked_by, marked_after, marked_of, sent_of, list_of, sample_of}

-- unread where there is none: the request itself
pub read_back : (r : Request) → unwrap_or (unless_unread r) request.Unread ≡ r
read_back request.Nothing = refl
read_back request.Unread = refl
read_back (request.Sender a) = refl
read_back (request.Send w c) = refl
read_back (request.Plain a) = refl
read_back (request.Free a w) = refl
read_back (request.At a w s) = refl
read_back (request.Piece c n) = refl
read_back (request.Finish c) = refl
read_back (request.Sample x y) = refl
read_back request.Pending = refl
read_back (request.List c n) = refl
read_back request.Missing = refl
read_back (request.Marked c m n) = refl
read_back (request.Card b) = refl

-- what reads a token, and refuses a text with a space
pub record Reader (p : List ℕ → Option ℕ) : Type 0 where
  pub refuses : (s : List ℕ) → length_before 32 s < length s → None ≡ p s

pub any-reader : Reader any_number
any-reader = record { refuses = spaced-number 10 (omega arith) 4294967295 }

pub cap-reader : Reader cap_number
cap-reader = record { refuses = spaced-number 10 (omega arith) 4096 }

pub hex-reader : Reader hex_of
hex-reader = record { refuses = spaced-hex }

-- g of a text, where g refuses more than one token, is g of the one token
only_one : (g : List ℕ → Request) (s : List ℕ) → (length_before 32 s < length s → g s ≡ request.Unread) → g s ≡ one g (tokens s)
only_one g s h = by (ltb (length_before 32 s) (length s)) refl where
  many : (t : List ℕ) (ts : List (List ℕ)) → (length ts ≡ 0 → ⊥) → one g (t ∷ ts) ≡ request.Unread
  many t [] f = absurd (f refl)
  many t (t' ∷ ts) f = refl

  by : (b : Bool) → ltb (length_before 32 s) (length s) ≡ b → g s ≡ one g (tokens s)
  by true e =
      let less : length_before 32 s < length s = ltb-true _ _ e in
      h less ∙ sym (rw (more-tokens s less) (many (take (length_before 32 s) s) (tokens (drop (suc (length_before 32 s)) s)) (not-empty (drop (suc (length_before 32 s)) s))))
  by false e = rw (last-token s (omega (arith, ltb-false (length_before 32 s) (length s) e, at-most-all 32 s)))

module _ {p : List ℕ → Option ℕ} (reads : Reader p) where
  pub one-read : (f : ℕ → Request) (s : List ℕ) {o : Option ℕ} → o ≡ p s → just f o ≡ one (λ t. just f (p t)) (tokens s)
  one-read f s e = rw e (only_one (λ t. just f (p t)) s (λ h. rw (← reads.refuses s h)))

  pub two-read : (f : ℕ → ℕ → Request) (q : List ℕ → Option ℕ) {s : List ℕ} {n : ℕ} → Cuts 32 s n → (n ≡ length s → ⊥) → {o o' : Option ℕ} → o ≡ q (take n s) → o' ≡ p (after n s)
      → both f o o' ≡ two (λ a b. both f (q a) (p b)) (tokens s)
  two-read f q {s} {n} cut h {o} {o'} e e' = rw (cut_off cut h, e, e') (only_one (λ b. both f (q (take n s)) (p b)) (after n s) (λ k. rw (← reads.refuses (after n s) k) (bad (q (take n s))))) where
    bad : (o : Option ℕ) → both f o None ≡ request.Unread
    bad (Some n) = refl
    bad None = refl

module _ {s : List ℕ} {n : ℕ} (cut : Cuts 32 s n) where
  whole : n ≡ length s → take n s ≡ s
  whole h = take_all n s (omega arith)

  pub two-alone : (g : List ℕ → List ℕ → Request) → n ≡ length s → request.Unread ≡ two g (tokens s)
  two-alone g h = rw (alone cut h)

  -- the cap, and what stands after it
  pub piece-read : (room : ℕ) {o : Option ℕ} {m : Option ℕ} {r : Request} → o ≡ cap_number (take n s) → m ≡ many_of whole_in room (drop 1 (tokens s)) → r ≡ heard_of o m → r ≡ piece_of room (tokens s)
  piece-read room e f g = g ∙ rw (e, f, (first-token s n cut.is).1)

  pub marked-alone : (list : List ℤ) (marks : List ℕ) → n ≡ length s
      → (request.Unread ≡ marked_of (length list) (length marks) (tokens s)) × ((list ≡ marked_fills (tokens s) list) × (marks ≡ marks_of (tokens s) marks))
  marked-alone list marks h = (rw (alone cut h), (rw (alone cut h), rw (alone cut h)))

  -- the marks, and what stands after them
  pub marked-after : (room : ℕ) (cap : Option ℕ) {marks marks' : List ℕ} {k m : Option ℕ} {r : Request} → Row (take n s) marks k marks' → m ≡ many_of whole_in room (drop 1 (tokens s)) → r ≡ marked_by cap k m
      → (r ≡ marked_after room (length marks) cap (tokens s)) × (marks' ≡ marks_after (tokens s) marks)
  marked-after room cap row f g = (g ∙ rw (row.count, f, (first-token s n cut.is).1), row.filled ∙ rw (first-token s n cut.is).1)

  pub marked-read : (list : List ℤ) (marks : List ℕ) {cap : Option ℕ} {list' : List ℤ} {marks' : List ℕ} {r : Request} → (n ≡ length s → ⊥) → cap ≡ cap_number (take n s)
      → r ≡ marked_after (length list) (length marks) cap (tokens (after n s)) → list' ≡ coordinate_fills (drop 1 (tokens (after n s))) list → marks' ≡ marks_after (tokens (after n s)) marks
      → (r ≡ marked_of (length list) (length marks) (tokens s)) × ((list' ≡ marked_fills (tokens s) list) × (marks' ≡ marks_of (tokens s) marks))
  marked-read list marks h e f g k = (f ∙ rw (e, cut_off cut h), (g ∙ rw (cut_off cut h), k ∙ rw (cut_off cut h)))

  pub sample-alone : (b : Bool) → n ≡ length s → b ≡ same_bytes s (bytes "missing") → cond b request.Missing request.Unread ≡ sample_of (tokens s)
  sample-alone b h e = rw (alone cut h, e)

  pub sample-more : (n ≡ length s → ⊥) → two (λ x y. both request.Sample (hex_of x) (hex_of y)) (tokens s) ≡ sample_of (tokens s)
  sample-more h = rw (cut_off cut h) (more (tokens (after n s)) (not-empty (after n s))) where
    more : (ts : List (List ℕ)) → (length ts ≡ 0 → ⊥) → two (λ x y. both request.Sample (hex_of x) (hex_of y)) (take n s ∷ ts) ≡ sample_of (take n s ∷ ts)
    more [] g = absurd (g refl)
    more (t ∷ ts) g = refl

  pub list-bad : (list : List ℕ) → None ≡ cap_number (take n s) → (request.Unread ≡ list_of (length list) (tokens s)) × (list ≡ list_fills (tokens s) list)
  list-bad list e = (rw ((first-token s n cut.is).1, ← e), rw ((first-token s n cut.is).1, ← e))

  pub list-alone : (list : List ℕ) {c : ℕ} → n ≡ length s → Some c ≡ cap_number (take n s) → (request.List c 0 ≡ list_of (length list) (tokens s)) × (list ≡ list_fills (tokens s) list)
  list-alone list h e = (rw (alone cut h, ← whole h) (rw (← e)), rw (alone cut h, ← whole h) (rw (← e)))

  pub list-more : {list list' : List ℕ} {c : ℕ} {m : Option ℕ} {r : Request} → (n ≡ length s → ⊥) → Some c ≡ cap_number (take n s) → Lists number_in (after n s) list m list'
      → r ≡ sent_of (Some c) m → (r ≡ list_of (length list) (tokens s)) × (list' ≡ list_fills (tokens s) list)
  list-more h e l f = (f ∙ rw (cut_off cut h, ← e, l.answer), rw (cut_off cut h, ← e) l.filled)
