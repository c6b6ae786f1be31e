-- There and back again: what a record says is what was put into it, well-formed records are read from their bytes, and a clean reading
-- is all there was.
--   word_back, coordinate-back   a word and a coordinate from the bytes that stand for them
--   word_bytes                   the bytes of a word from the word
--   read-back     the bytes of well-formed records read as these records, whatever stands before them
--   Exact, read-exact   the bytes of a clean reading's records are the capture, and they are well formed
use mathlib.Core.Path.{◌≡◌, refl, sym, ap, ◌∙◌}
use mathlib.Core.Bool.{Bool, true, false, cond}
use mathlib.Core.List.{List, [], ◌∷◌, ◌++◌}
use Prim.Native.Nat.{ℕ, zero, suc, ◌+◌, ◌-◌, ◌*◌, ◌/◌, ◌%◌, ◌≤◌, ◌<◌}
use native.Mathlib.Omega.{arith}
use borrow.Author.Tests.{le-leb, leb-true, lt-ltb, le-ltb}
use lib.Dec.{leb}
use lib.IntN.{ℤ, pos, negsuc, nat_abs}
use lib.ListN.{length, take, drop, length-append, length-drop, take-append-drop}
use lib.Seq.{take-append_seam, drop-append_seam, length-take-le}
use Rattle.records.specs.declared.Phase.{Phase}
use Rattle.records.specs.declared.Phase.TheVariants.{Start}
use Rattle.records.specs.Kinds.{kind_of, may_stand, after_role, begins}
use Rattle.records.specs.Values.{Entry, entry, number_of, coordinate_of, half_of, body_fits, bytes_of}
use Rattle.records.specs.Reading.{clean, malformed, Reading, stops_at, followed_by, nothing_more, stands, reading_from, reading_of, WellFormed}
use Rattle.records.proofs.Fits.{both_true}

-- ---- values

pub word_back : (w : ℕ) → w < 4294967296 → number_of (w % 256) (w / 256 % 256) (w / 65536 % 256) (w / 16777216) ≡ w
unfolding number_of
word_back w h = omega arith

pub record WordBytes (a b c d w : ℕ) : Type 0 where
  pub a-is : w % 256 ≡ a
  pub b-is : w / 256 % 256 ≡ b
  pub c-is : w / 65536 % 256 ≡ c
  pub d-is : w / 16777216 ≡ d

pub word_bytes : (a b c d : ℕ) → a < 256 → b < 256 → c < 256 → d < 256 → WordBytes a b c d (number_of a b c d)
unfolding number_of
word_bytes a b c d p q r s = record { a-is = omega arith; b-is = omega arith; c-is = omega arith; d-is = omega arith }

pub coordinate-back : (z : ℤ) → nat_abs z < 32768 → coordinate_of (half_of z % 256) (half_of z / 256) ≡ z
unfolding coordinate_of half_of
coordinate-back (pos n) h =
    let e : n % 65536 % 256 + 256 * (n % 65536 / 256) ≡ n = omega arith in
    rw (e, lt-ltb n 32768 h)
coordinate-back (negsuc n) h =
    let e : (65535 - n % 65536) % 256 + 256 * ((65535 - n % 65536) / 256) ≡ 65535 - n = omega arith in
    let k : 65536 - suc (65535 - n) ≡ n = omega arith in
    rw (e, le-ltb (65535 - n) 32768 (omega arith)) (ap negsuc k)

-- ---- records

none_left : (j : ℕ) → suc j ≤ 0 → ⊥
none_left j h = omega arith

broken-clean : (at : ℕ) → malformed at ≡ clean → ⊥
broken-clean at e = let z : ◌≡◌ {A = ℕ} 0 1 = cc in omega arith

read-back-from : (n : ℕ) (p : Phase) (at : ℕ) (rs : List Entry) → WellFormed p rs → length (bytes_of rs) ≤ n → reading_from n p at (bytes_of rs) ≡ record { records = rs; ending = clean }
unfolding reading_from bytes_of
read-back-from zero p at [] h l = rw h
read-back-from (suc n) p at [] h l = rw h
read-back-from zero p at (r ∷ rs) h l = absurd (none_left (length (r.body ++ bytes_of rs)) l)
read-back-from (suc n) p at (r ∷ rs) h l =
    let b = r.body in
    let e : length (b ++ bytes_of rs) ≡ length b + length (bytes_of rs) = length-append b (bytes_of rs) in
    let q = after_role p (kind_of r.kind).role in
    let ih : reading_from n q (at + 1 + length b) (bytes_of rs) ≡ record { records = rs; ending = clean } =
    read-back-from n q (at + 1 + length b) rs h.3 (omega arith) in
    rw (h.0, sym h.1, le-leb (length b) (length (b ++ bytes_of rs)) (omega arith), take-append_seam b (bytes_of rs), drop-append_seam b (bytes_of rs), h.2, ih)

pub read_back : (rs : List Entry) → WellFormed Start rs → reading_of (bytes_of rs) ≡ record { records = rs; ending = clean }
unfolding reading_of
read_back rs h = read-back-from (length (bytes_of rs)) Start 0 rs h (omega arith)

pub record Exact (p : Phase) (bs : List ℕ) (q : Reading) : Type 0 where
  pub bytes : q.ending ≡ clean → bytes_of q.records ≡ bs
  pub formed : q.ending ≡ clean → WellFormed p q.records

never-clean : (p : Phase) (bs : List ℕ) (at : ℕ) → Exact p bs (stops_at (malformed at))
never-clean p bs at = record { bytes = λ z. absurd (broken-clean at z); formed = λ z. absurd (broken-clean at z) }

nothing-exact : (p : Phase) (at : ℕ) → Exact p [] (nothing_more p at)
unfolding bytes_of
nothing-exact p at = go (begins p) refl
  where
    go : (b : Bool) → begins p ≡ b → Exact p [] (stops_at (cond b clean (malformed at)))
    go true e = record { bytes = λ _. refl; formed = λ _. e }
    go false e = never-clean p [] at

exact-from : (n : ℕ) (p : Phase) (at : ℕ) (bs : List ℕ) → length bs ≤ n → Exact p bs (reading_from n p at bs)
unfolding reading_from bytes_of
exact-from zero p at [] l = nothing-exact p at
exact-from zero p at (b ∷ bs) l = absurd (none_left (length bs) l)
exact-from (suc n) p at [] l = nothing-exact p at
exact-from (suc n) p at (k ∷ bs) l =
    go (may_stand p (kind_of k).role) refl (stands k bs) refl
    (exact-from n (after_role p (kind_of k).role) (at + 1 + m) (drop m bs) (omega (arith, length-drop m bs)))
  where
    m : ℕ
    m = (kind_of k).size

    rest : Reading
    rest = reading_from n (after_role p (kind_of k).role) (at + 1 + m) (drop m bs)

    go : (s : Bool) → may_stand p (kind_of k).role ≡ s → (t : Bool) → stands k bs ≡ t → Exact (after_role p (kind_of k).role) (drop m bs) rest
        → Exact p (k ∷ bs) (cond s (cond t (followed_by (entry k (take m bs)) rest) (stops_at (malformed at))) (stops_at (malformed at)))
    go false a t w ih = never-clean p (k ∷ bs) at
    go true a false w ih = never-clean p (k ∷ bs) at
    go true a true w ih =
        let v = both_true (leb m (length bs)) (body_fits k (take m bs)) w in
        record {
          bytes = λ z. ap (λ (r : List ℕ). k ∷ r) (ap (λ (r : List ℕ). take m bs ++ r) (ih.bytes z) ∙ take-append-drop m bs);
          formed = λ z. (a, length-take-le m bs (leb-true m (length bs) v.0), v.1, ih.formed z);
        }

pub read-exact : (bs : List ℕ) → Exact Start bs (reading_of bs)
unfolding reading_of
read-exact bs = exact-from (length bs) Start 0 bs (omega arith)
