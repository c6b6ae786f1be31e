-- What kind 5 asks of its bytes, byte by byte: a body fits as long as each further byte does.
--   both_true       two tests that hold together
--   fits-append     a body in two parts; fits-front: its front fits where the whole does
--   fits_next       one byte more, asked of a frame that holds the bytes before it
--   fit-here, unfit-here, fit-end   the body from the byte i on
use mathlib.Core.Path.{◌≡◌, refl, sym, ap, ◌∙◌}
use mathlib.Core.Bool.{Bool, true, false, ◌&&◌}
use mathlib.Core.List.{List, [], ◌∷◌, ◌++◌}
use Prim.Native.Nat.{ℕ, suc, ◌+◌, ◌≤◌, ◌<◌}
use native.Mathlib.Numerals.{add-one}
use native.Mathlib.Omega.{arith}
use lib.ListN.{get_or, length, take, drop, drop_of_length-le}
use lib.Seq.{get_or-take, drop-cons}
use Rattle.records.specs.Values.{byte_fits, fits_from, body_fits}

pub not-both : false ≡ true → ⊥
not-both e = let z : ◌≡◌ {A = ℕ} 0 1 = cc in omega arith

pub both_true : (a b : Bool) → (a && b) ≡ true → (a ≡ true) × (b ≡ true)
both_true true b e = (refl, e)
both_true false b e = absurd (not-both e)

and_assoc : (a b c : Bool) → (a && (b && c)) ≡ ((a && b) && c)
and_assoc true b c = refl
and_assoc false b c = refl

and-true : (a : Bool) → (a && true) ≡ a
and-true true = refl
and-true false = refl

append-from : (k m i : ℕ) (xs ys : List ℕ) → fits_from k m i (xs ++ ys) ≡ (fits_from k m i xs && fits_from k m (i + length xs) ys)
unfolding fits_from
append-from k m i [] ys = let e : i + 0 ≡ i = omega arith in rw e
append-from k m i (x ∷ xs) ys =
    let e : suc i + length xs ≡ i + suc (length xs) = omega arith in
    ap (λ (t : Bool). byte_fits k m i x && t) (append-from k m (suc i) xs ys ∙ ap (λ (n : ℕ). fits_from k m (suc i) xs && fits_from k m n ys) e)
    ∙ and_assoc (byte_fits k m i x) (fits_from k m (suc i) xs) (fits_from k m (i + suc (length xs)) ys)

pub fits-append : (k : ℕ) (xs ys : List ℕ) → body_fits k (xs ++ ys) ≡ (body_fits k xs && fits_from k (get_or (xs ++ ys) 0 0) (length xs) ys)
unfolding fits_from
fits-append k [] ys = refl
fits-append k (x ∷ xs) ys =
    let e : 0 + suc (length xs) ≡ suc (length xs) = omega arith in
    append-from k x 0 (x ∷ xs) ys ∙ ap (λ (n : ℕ). body_fits k (x ∷ xs) && fits_from k x n ys) e

pub fits-front : (k : ℕ) (xs ys : List ℕ) → body_fits k (xs ++ ys) ≡ true → body_fits k xs ≡ true
fits-front k xs ys e = (both_true (body_fits k xs) _ (sym (fits-append k xs ys) ∙ e)).0

-- the mark is the first byte; of the first byte itself nothing before it is asked
same-mark : (k : ℕ) (xs : List ℕ) (b : ℕ) (body : List ℕ) → take (length xs) body ≡ xs → byte_fits k (get_or (xs ++ b ∷ []) 0 0) (length xs) b ≡ byte_fits k (get_or body 0 0) (length xs) b
unfolding byte_fits
same-mark k [] b body e = refl
same-mark k (x ∷ xs) b body e =
    let m : get_or body 0 0 ≡ x = sym (get_or-take (suc (length xs)) body 0 0 (omega arith)) ∙ ap (λ (l : List ℕ). get_or l 0 0) e in
    rw m

pub fits_next : (k : ℕ) (xs : List ℕ) (b : ℕ) (body : List ℕ) → take (length xs) body ≡ xs → body_fits k xs ≡ true → body_fits k (xs ++ b ∷ []) ≡ byte_fits k (get_or body 0 0) (length xs) b
unfolding fits_from
fits_next k xs b body e h =
    let m = get_or (xs ++ b ∷ []) 0 0 in
    fits-append k xs (b ∷ []) ∙ ap (λ (t : Bool). t && (byte_fits k m (length xs) b && true)) h ∙ and-true (byte_fits k m (length xs) b) ∙ same-mark k xs b body e

-- ---- a body that lies there whole, from its byte i on

module _ (k m i : ℕ) (bs : List ℕ) where
  pub fit-here : i < length bs → byte_fits k m i (get_or bs i 0) ≡ true → fits_from k m (i + 1) (drop (i + 1) bs) ≡ fits_from k m i (drop i bs)
  unfolding fits_from
  fit-here h e = rw (add-one, drop-cons bs i 0 h, e)

  pub unfit-here : i < length bs → byte_fits k m i (get_or bs i 0) ≡ false → fits_from k m i (drop i bs) ≡ false
  unfolding fits_from
  unfit-here h e = rw (drop-cons bs i 0 h, e)

  pub fit-end : length bs ≤ i → fits_from k m i (drop i bs) ≡ true
  unfolding fits_from
  fit-end h = rw (drop_of_length-le bs h)
