-- Records at the front of bytes: what stores leave, and how many bytes records have.
--   fronted        stores one after the other
--   handed, small-bits, kept, kept-reads, kept_small   a coordinate as a call is handed it, and as a record has it
--   small-heard, plain-record                          the record of a symbol of which nothing is missing
--   marked-record, small-first, small-second           the record of a symbol of which a point is missing
--   nine-bytes, ten-bytes, one_byte                    what the records of a symbol and of a finish need
--   bytes-append   the bytes of records, and of records after them
--   word_bytes     a word has five
--   symbol-space, finish-space   "5 for each word", after the symbol's own record or that of a finish
--   words_more     one word more
--   then-words     a record, and then words where the rest of the bytes was lent
use mathlib.Core.Path.{◌≡◌, refl, sym, ap, subst, ◌∙◌}
use mathlib.Core.Bool.{Bool, true, false, cond}
use mathlib.Core.List.{List, [], ◌∷◌, ◌++◌, append_assoc}
use Prim.Native.Nat.{ℕ, ◌+◌, ◌-◌, ◌*◌, ◌%◌, ◌<◌, ◌≤◌}
use native.Mathlib.Numerals.{add-one}
use native.Mathlib.Omega.{arith}
use borrow.Author.Tests.{eqb-true, eqb-false, leb-false}
use lib.IntN.{ℤ, pos, nat_abs}
use lib.ListN.{get_or, length, take, drop, length-append}
use lib.Seq.{sets, take-suc}
use mir.Syntax.{w32}
use mir.Val.{to_z, of_z}
use Rattle.points.proofs.Signed.{reads}
use Rattle.lists.proofs.Lent.{stored, placed}
use Rattle.trellis.specs.Measure.{Two}
use Rattle.nearest.specs.declared.Received.{Received}
use Rattle.receiver_meaning.specs.Piece.{point_from, first_missing, second_missing}
use Rattle.records.specs.Values.{Entry, symbol_entry, marked_entry, word_entry, finish_entry, bytes_of}
use Rattle.record_write.specs.Front.{symbol_in, spot_of, symbol_record, symbol_space, space_of, word_entries, symbol_records, finish_records, Fronted, SmallSpot, Small}

pub fronted : (rs : List Entry) (l : List ℕ) → length (bytes_of rs) ≤ length l → Fronted rs l (sets l 0 (bytes_of rs))
fronted rs l h = stored (bytes_of rs) l h

-- ---- a coordinate as a call is handed it, and as a record has it

abbrev pub handed : ℤ → ℤ
handed x = to_z w32 (of_z w32 x)

same : (x : ℤ) → nat_abs x ≤ 32768 → handed x ≡ x
same x h = reads w32 x (omega arith)

pub small-bits : (x : ℤ) → nat_abs x ≤ 32768 → nat_abs (handed x) ≤ 32768
small-bits x h = rw (same x h) h

-- 0 for a missing point
abbrev pub kept : Bool → ℤ → ℤ
kept b x = cond b (pos 0) x

pub kept-reads : (b : Bool) (x r : ℤ) → nat_abs (kept b x) ≤ 32768 → r ≡ kept b (handed x) → handed r ≡ kept b x
kept-reads true x r h e = rw e (same (pos 0) (omega arith))
kept-reads false x r h e = rw (e, same x h) (same x h)

pub kept_small : (b : Bool) (x r : ℤ) → nat_abs (kept b x) ≤ 32768 → r ≡ kept b (handed x) → nat_abs (handed r) ≤ 32768
kept_small b x r h e = rw (kept-reads b x r h e) h

-- ---- the record of a symbol, by its mark

spot_is : (b : Bool) (x y : ℤ) → spot_of (point_from b x y) ≡ record { x = kept b x; y = kept b y }
spot_is true x y = refl
spot_is false x y = refl

module _ (m : ℕ) (xs : List ℤ) where
  abbrev at : ℕ → ℤ
  at i = get_or xs i (pos 0)

  abbrev first : Bool
  first = first_missing m

  abbrev second : Bool
  second = second_missing m

  pub small-first : Small (symbol_in m xs) → (nat_abs (kept first (at 0)) ≤ 32768) × (nat_abs (kept first (at 1)) ≤ 32768)
  small-first s = subst SmallSpot (spot_is first (at 0) (at 1)) s.0

  pub small-second : Small (symbol_in m xs) → (nat_abs (kept second (at 2)) ≤ 32768) × (nat_abs (kept second (at 3)) ≤ 32768)
  small-second s = subst SmallSpot (spot_is second (at 2) (at 3)) s.1

  pub small-heard : m ≡ 0 → Small (symbol_in m xs) → (nat_abs (at 0) ≤ 32768) × (nat_abs (at 1) ≤ 32768) × (nat_abs (at 2) ≤ 32768) × (nat_abs (at 3) ≤ 32768)
  small-heard e s = let t : Small (symbol_in 0 xs) = subst (λ (n : ℕ). Small (symbol_in n xs)) e s in (t.0.0, t.0.1, t.1.0, t.1.1)

  -- as the call is handed its coordinates
  pub plain-record : m ≡ 0 → Small (symbol_in m xs) → symbol_entry (handed (at 0)) (handed (at 1)) (handed (at 2)) (handed (at 3)) ≡ symbol_record (symbol_in m xs)
  plain-record e s =
      let t = small-heard e s in
      (λ i. symbol_entry (same (at 0) t.0 i) (same (at 1) t.1 i) (same (at 2) t.2 i) (same (at 3) t.3 i)) ∙ ap (λ (n : ℕ). symbol_record (symbol_in n xs)) (sym e)

  pub marked-record : (m ≡ 0 → ⊥) → symbol_record (symbol_in m xs)
      ≡ marked_entry (cond second (2 + m % 2) m) (kept first (at 0)) (kept first (at 1)) (kept second (at 2)) (kept second (at 3))
  marked-record some = go first refl second refl
    where
      go : (f : Bool) → first ≡ f → (s : Bool) → second ≡ s → symbol_record (record { first = point_from f (at 0) (at 1); second = point_from s (at 2) (at 3) })
          ≡ marked_entry (cond s (2 + m % 2) m) (kept f (at 0)) (kept f (at 1)) (kept s (at 2)) (kept s (at 3))
      go false e false h = absurd (some (omega (arith, eqb-false (m % 2) 1 e, leb-false 2 m h)))
      go true e false h = let z : m ≡ 1 = omega (arith, eqb-true (m % 2) 1 e, leb-false 2 m h) in rw z
      go false e true h = let z : m % 2 ≡ 0 = omega (arith, eqb-false (m % 2) 1 e) in rw z
      go true e true h = let z : m % 2 ≡ 1 = eqb-true (m % 2) 1 e in rw z

  -- kind 2 has nine bytes, and kind 5 ten
  pub ten-bytes : (m ≡ 0 → ⊥) → symbol_space (symbol_in m xs) ≡ 10
  unfolding bytes_of
  ten-bytes some = rw (marked-record some)

pub nine-bytes : (m : ℕ) (xs : List ℤ) → m ≡ 0 → symbol_space (symbol_in m xs) ≡ 9
unfolding bytes_of
nine-bytes m xs e = rw e

pub one_byte : space_of (finish_entry ∷ []) ≡ 1
unfolding bytes_of
one_byte = refl

pub bytes-append : (rs qs : List Entry) → bytes_of (rs ++ qs) ≡ bytes_of rs ++ bytes_of qs
unfolding bytes_of
bytes-append [] qs = refl
bytes-append (r ∷ rs) qs = ap (λ (l : List ℕ). r.kind ∷ (r.body ++ l)) (bytes-append rs qs) ∙ ap (λ (l : List ℕ). r.kind ∷ l) (sym (append_assoc r.body (bytes_of rs) (bytes_of qs)))

pub word_bytes : (ws : List ℕ) → length (bytes_of (word_entries ws)) ≡ 5 * length ws
unfolding bytes_of
word_bytes [] = refl
word_bytes (w ∷ ws) = let h = word_bytes ws in omega arith

pub symbol-space : (y : Two Received) (ws : List ℕ) → space_of (symbol_records y ws) ≡ symbol_space y + 5 * length ws
unfolding bytes_of
symbol-space y ws =
    let body = (symbol_record y).body in
    omega (arith, word_bytes ws, length-append body (bytes_of (word_entries ws)), length-append body [])

pub finish-space : (ws : List ℕ) → space_of (finish_records ws) ≡ 1 + 5 * length ws
unfolding bytes_of
finish-space ws = let h = word_bytes ws in omega arith

map-append : (ws vs : List ℕ) → word_entries (ws ++ vs) ≡ word_entries ws ++ word_entries vs
map-append [] vs = refl
map-append (w ∷ ws) vs = ap (λ (l : List Entry). word_entry w ∷ l) (map-append ws vs)

pub words_more : (ws : List ℕ) (i : ℕ) → i < length ws → bytes_of (word_entries (take (i + 1) ws)) ≡ bytes_of (word_entries (take i ws)) ++ bytes_of (word_entry (get_or ws i 0) ∷ [])
words_more ws i h = rw (add-one i, take-suc ws i 0 h, map-append (take i ws) (get_or ws i 0 ∷ [])) (bytes-append (word_entries (take i ws)) (word_entry (get_or ws i 0) ∷ []))

-- a record of k bytes stands at the front of m, which was l; the rest was lent, and words were put there
pub then-words : (r : Entry) (ws l m ys : List ℕ) (k : ℕ) → length (bytes_of (r ∷ [])) ≡ k → m ≡ bytes_of (r ∷ []) ++ drop k l →
    Fronted (word_entries ws) (take (length m - k) (drop k m)) ys → Fronted (r ∷ word_entries ws) l (take k m ++ (ys ++ drop (length m - k) (drop k m)))
then-words r ws l m ys k size is e =
    let vs = bytes_of (word_entries ws) in
    let both : bytes_of (r ∷ word_entries ws) ≡ bytes_of (r ∷ []) ++ vs = bytes-append (r ∷ []) (word_entries ws) in
    let long : length (bytes_of (r ∷ []) ++ vs) ≡ k + length vs = length-append (bytes_of (r ∷ [])) vs ∙ rw size in
    placed l (bytes_of (r ∷ [])) k size is vs (length vs) e ∙ rw (both, long)
