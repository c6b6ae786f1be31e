-- Laws of reading a list of numbers token by token, over what a token writes, and that the promise allows one result alone.
use Prim.Native.Nat.{ℕ, zero, suc, ◌+◌, ◌-◌, ◌≤◌, ◌<◌}
use mathlib.Core.Path.{◌≡◌, refl, sym, ap, ◌∙◌}
use mathlib.Core.List.{List, [], ◌∷◌, ◌++◌, append-nil}
use native.Mathlib.Omega.{arith}
use native.Mathlib.Nat.{add-sub_cancel_left}
use native.Mathlib.Numerals.{add-one}
use Rattle.std.specs.Prelude.{Option, Some, None}
use lib.ListN.{length, take, drop, set, length-drop, length-set, take-append-drop}
use lib.Seq.{drop-drop, drop-set-lt, take-suc-set, take_all, append_snoc, length-take-le}
use Rattle.text.specs.Token.{tokens, length_before, Cuts}
use Rattle.number_lists.specs.Many.{before, first_of, more, one_more, many_of, Lists}
use Rattle.text.proofs.Digits.{to_end}
use Rattle.text.proofs.Tokens.{not-empty, last-token, more-tokens, first-token, token_end}

-- k numbers are in the list, there is room for some more, and the tokens from `from` on are still to be read
pub record Listed {A : Type 0} (p : List ℕ → Option A) (s : List ℕ) (list₀ : List A) (from k : ℕ) (list : List A) : Type 0 where
  pub room : ℕ
  pub left : k + room ≡ length list₀
  pub long : length list ≡ length list₀
  pub rest : drop k list ≡ drop k list₀
  pub values : first_of p (length list₀) (tokens s) ≡ take k list ++ first_of p room (tokens (drop from s))
  pub answer : many_of p (length list₀) (tokens s) ≡ more k (many_of p room (tokens (drop from s)))

more-zero : (m : Option ℕ) → m ≡ more 0 m
more-zero (Some n) = ap Some (omega arith)
more-zero None = refl

more-more : (k : ℕ) (m : Option ℕ) → more k (more 1 m) ≡ more (k + 1) m
more-more k (Some n) = ap Some (omega arith)
more-more k None = refl

pub none-listed : {A : Type 0} (p : List ℕ → Option A) (s : List ℕ) (list : List A) → Listed p s list 0 0 list
none-listed p s list = record { room = length list; left = omega arith; long = refl; rest = refl; values = refl; answer = more-zero _ }

-- the loop has come so far and has room for a number more, and the token that stands at `from` has n bytes
pub record Reading {A : Type 0} (p : List ℕ → Option A) (s : List ℕ) (list₀ : List A) (from k : ℕ) (list : List A) (n : ℕ) : Type 0 where
  pub listed : Listed p s list₀ from k list
  pub begun : from ≤ length s
  pub space : k < length list
  pub cut : Cuts 32 (take (length s - from) (drop from s)) n

-- where the numbers fs that the tokens write are the first k of the list
written : {A : Type 0} (fs list₀ : List A) {list : List A} (k : ℕ) → k ≤ length list → drop k list ≡ drop k list₀ → fs ≡ take k list
    → list ≡ fs ++ drop (length fs) list₀
written fs list₀ {list} k h e f = rw (f, length-take-le k list h, ← e, take-append-drop k list)

-- tokens that are there have no room
no_room : {A : Type 0} (p : List ℕ → Option A) (ts : List (List ℕ)) → (length ts ≡ 0 → ⊥) → (first_of p 0 ts ≡ []) × (many_of p 0 ts ≡ None)
no_room p [] h = absurd (h refl)
no_room p (t ∷ ts) h = (refl, refl)

-- a first token t that writes x
module _ {A : Type 0} (p : List ℕ → Option A) {room m : ℕ} {t : List ℕ} {ts tts : List (List ℕ)} {x : A} (a : room ≡ suc m) (b : tts ≡ t ∷ ts) (c : p t ≡ Some x) where
  one_value : first_of p room tts ≡ x ∷ first_of p m ts
  one_value = rw (a, b, c)

  one-counted : many_of p room tts ≡ more 1 (many_of p m ts)
  one-counted = rw (a, b, c)

module _ {A : Type 0} {p : List ℕ → Option A} {s : List ℕ} {list₀ list : List A} {from k : ℕ} where
  pub list_full : Listed p s list₀ from k list → length list ≤ k → Lists p s list₀ None list
  list_full l h =
      let gone : l.room ≡ 0 = omega (arith, l.left, l.long) in
      let stops = no_room p (tokens (drop from s)) (not-empty (drop from s)) in
      let values : first_of p (length list₀) (tokens s) ≡ take k list = l.values ∙ rw (gone, stops.0) (append-nil (take k list)) in
      record {
        answer = sym (l.answer ∙ rw (gone, stops.1));
        filled = written (first_of p (length list₀) (tokens s)) list₀ k (omega (arith, l.left, l.long)) l.rest values;
      }

  module _ {n : ℕ} (r : Reading p s list₀ from k list n) where
    abbrev l : Listed p s list₀ from k list
    l = r.listed

    pub token-within : from + n ≤ length s
    token-within = token_end s from r.begun r.cut

    is : n ≡ length_before 32 (drop from s)
    is = r.cut.is ∙ rw (to_end from s)

    next-room : l.room ≡ suc (l.room - 1)
    next-room = omega (arith, l.left, l.long, r.space)

    pub list-bad : None ≡ p (take (from + n - from) (drop from s)) → Lists p s list₀ None list
    list-bad h =
        let token = first-token (drop from s) n is in
        let bad : p (take n (drop from s)) ≡ None = sym (rw (add-sub_cancel_left from n) at h) in
        let values : first_of p (length list₀) (tokens s) ≡ take k list = l.values ∙ rw (next-room, token.1, bad) (append-nil (take k list)) in
        record {
          answer = sym (l.answer ∙ rw (next-room, token.1, bad));
          filled = written (first_of p (length list₀) (tokens s)) list₀ k (omega (arith, l.left, l.long)) l.rest values;
        }

    -- it writes v, which the machine stores as x
    module _ (v x : A) (same : x ≡ v) (reads : Some v ≡ p (take (from + n - from) (drop from s))) where
      got : p (take n (drop from s)) ≡ Some x
      got = sym (rw (add-sub_cancel_left from n) at reads) ∙ ap (λ (a : A). Some a) (sym same)

      one-stored : take (k + 1) (set list k x) ≡ take k list ++ (x ∷ [])
      one-stored = rw add-one (take-suc-set list k x r.space)

      rest-stays : drop (k + 1) (set list k x) ≡ drop (k + 1) list₀
      rest-stays = rw (drop-set-lt (k + 1) list k x (omega arith), ← drop-drop 1 k list, l.rest, drop-drop 1 k list₀)

      pub list_done : from + n ≡ length s → Lists p s list₀ (Some (k + 1)) (set list k x)
      list_done h =
          let all : n ≡ length (drop from s) = rw length-drop (omega (arith, r.begun)) in
          let token : tokens (drop from s) ≡ take n (drop from s) ∷ [] = rw (take_all n (drop from s) (omega arith)) (last-token (drop from s) (omega (arith, is))) in
          let values : first_of p (length list₀) (tokens s) ≡ take (k + 1) (set list k x) = l.values ∙ rw (next-room, token, got) (sym one-stored) in
          record {
            answer = sym (l.answer ∙ rw (next-room, token, got));
            filled = written (first_of p (length list₀) (tokens s)) list₀ (k + 1) (omega (arith, r.space, length-set list k x)) rest-stays values;
          }

      pub list-more : (from + n ≡ length s → ⊥)
          → (from + n + 1 ≤ length s) × (k + 1 ≤ length (set list k x)) × Listed p s list₀ (from + n + 1) (k + 1) (set list k x)
      list-more h =
          let short : from + n < length s = omega (arith, token-within, h) in
          let within : n < length (drop from s) = rw length-drop (omega arith) in
          let after : from + suc n ≡ from + n + 1 = omega arith in
          let token : tokens (drop from s) ≡ take n (drop from s) ∷ tokens (drop (from + n + 1) s) =
          rw (more-tokens (drop from s) (omega (arith, is)), ← is, drop-drop (suc n) from s, after) in
          let left_over = tokens (drop (from + n + 1) s) in (
            omega arith,
            omega (arith, r.space, length-set list k x),
            record {
              room = l.room - 1;
              left = omega (arith, l.left, l.long, r.space);
              long = length-set list k x ∙ l.long;
              rest = rest-stays;
              values = l.values ∙ rw (one_value p next-room token got, one-stored) (sym (append_snoc (take k list) x (first_of p (l.room - 1) left_over)));
              answer = l.answer ∙ rw (one-counted p next-room token got) (more-more k (many_of p (l.room - 1) left_over));
            },
          )

-- no more than there is room for
pub many-most : {A : Type 0} (p : List ℕ → Option A) (room : ℕ) (ts : List (List ℕ)) {n : ℕ} → Some n ≡ many_of p room ts → n ≤ room
many-most p room [] {n} h = let gone : n ≡ 0 = cc in omega arith
many-most p zero (t ∷ ts) h = let z : ◌≡◌ {A = ℕ} 0 1 = cc in absurd (omega arith)
many-most {A} p (suc room) (t ∷ ts) {n} h = by (p t) (many_of p room ts) (λ k e. many-most p room ts e) h where
  by : (w : Option A) (m : Option ℕ) → ((k : ℕ) → Some k ≡ m → k ≤ room) → Some n ≡ one_more w m → n ≤ suc room
  by (Some z) (Some k) f g = let is : n ≡ 1 + k = cc in omega (arith, f k refl)
  by (Some z) None f g = let z : ◌≡◌ {A = ℕ} 0 1 = cc in absurd (omega arith)
  by None m f g = let z : ◌≡◌ {A = ℕ} 0 1 = cc in absurd (omega arith)

-- as many as are counted
pub counted : {A : Type 0} (p : List ℕ → Option A) (room : ℕ) (ts : List (List ℕ)) {n : ℕ} → many_of p room ts ≡ Some n → length (first_of p room ts) ≡ n
counted p room [] {n} e = let z : 0 ≡ n = cc in z
counted p zero (t ∷ ts) {n} e = let z : ◌≡◌ {A = ℕ} 0 1 = cc in absurd (omega arith)
counted {A} p (suc room) (t ∷ ts) {n} e = by (p t) (many_of p room ts) (λ k f. counted p room ts f) e where
  by : (w : Option A) (m : Option ℕ) → ((k : ℕ) → m ≡ Some k → length (first_of p room ts) ≡ k) → one_more w m ≡ Some n → length (before w (first_of p room ts)) ≡ n
  by (Some z) (Some k) f g = let is : 1 + k ≡ n = cc in omega (arith, f k refl)
  by (Some z) None f g = let z : ◌≡◌ {A = ℕ} 0 1 = cc in absurd (omega arith)
  by None m f g = let z : ◌≡◌ {A = ℕ} 0 1 = cc in absurd (omega arith)

-- any two results of one call are equal
pub one_list : {A : Type 0} {p : List ℕ → Option A} {s : List ℕ} {list : List A} {r r' : Option ℕ} {list₁ list₂ : List A} → Lists p s list r list₁ → Lists p s list r' list₂ → (r ≡ r') × (list₁ ≡ list₂)
one_list a b = (a.answer ∙ sym b.answer, a.filled ∙ sym b.filled)
