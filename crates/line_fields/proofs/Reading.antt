-- Laws of reading a field token by token, over what a token writes.
--   Read              k numbers of the field are in the list, and the tokens from `from` on are still to be read
--   begun, ended      the loop's start; the list is full
--   gone              no token is left
--   bad, more         the token that stands there writes nothing, or a number more
--   one_field         any two answers of one call are equal, and the lists of a field
use Prim.Native.Nat.{ℕ, suc, ◌+◌, ◌-◌, ◌≤◌, ◌<◌}
use mathlib.Core.Path.{◌≡◌, refl, sym, ap, ◌∙◌}
use mathlib.Core.List.{List, [], ◌∷◌, ◌++◌, append-nil}
use Rattle.std.specs.Prelude.{Option, Some, None}
use native.Mathlib.Omega.{arith}
use native.Mathlib.Nat.{add-sub_cancel_left}
use native.Mathlib.Numerals.{add-one}
use native.Mathlib.Decide.{ℕ_discrete}
use borrow.Author.Tests.{le-leb, lt-leb}
use lib.ListN.{length, take, drop, set, length-drop, length-set}
use lib.Seq.{drop-drop, take-suc-set, take_all, append_snoc}
use Rattle.text.specs.Token.{tokens, length_before, Cuts}
use Rattle.text.proofs.Digits.{to_end}
use Rattle.text.proofs.Tokens.{last-token, more-tokens, token_end}
use Rattle.line_fields.specs.Fields.{tokens_at, Field, with_first, field_of, field_in, Gives}

-- numbers more in front
abbrev onto : {A : Type 0} → List A → Option (Field A) → Option (Field A)
onto xs (Some f) = Some (record { values = xs ++ f.values; rest = f.rest })
onto xs None = None

onto-none : {A : Type 0} (o : Option (Field A)) → o ≡ onto [] o
onto-none (Some f) = refl
onto-none None = refl

onto-more : {A : Type 0} (xs : List A) (x : A) (o : Option (Field A)) → onto xs (with_first (Some x) o) ≡ onto (xs ++ (x ∷ [])) o
onto-more {A} xs x (Some f) = ap (λ (l : List A). Some (record { values = l; rest = f.rest })) (sym (append_snoc xs x f.values))
onto-more xs x None = refl

-- ---- the tokens from a place on

none_left : (s : List ℕ) (from : ℕ) → length s < from → tokens_at s from ≡ []
none_left s from h = rw (lt-leb from (length s) h)

one_token : (s : List ℕ) (from n : ℕ) → from ≤ length s → Cuts 32 (take (length s - from) (drop from s)) n →
    tokens_at s from ≡ take n (drop from s) ∷ tokens_at s (from + n + 1)
one_token s from n h cut = rw (le-leb from (length s) h) (go (ℕ_discrete (from + n) (length s)))
  where
    is : n ≡ length_before 32 (drop from s)
    is = cut.is ∙ rw (to_end from s)

    go : Dec (from + n ≡ length s) → tokens (drop from s) ≡ take n (drop from s) ∷ tokens_at s (from + n + 1)
    go (yes e) =
        let all : n ≡ length (drop from s) = rw length-drop (omega arith) in
        rw (none_left s (from + n + 1) (omega arith), take_all n (drop from s) (omega arith)) (last-token (drop from s) (omega (arith, is)))
    go (no e) =
        let short : from + n < length s = omega (arith, token_end s from h cut, e) in
        let inside : n < length (drop from s) = rw length-drop (omega arith) in
        let after : from + suc n ≡ from + n + 1 = omega arith in
        rw (le-leb (from + n + 1) (length s) (omega arith), more-tokens (drop from s) (omega (arith, is)), ← is, drop-drop (suc n) from s, after)

-- ---- the loop

pub record Read {A : Type 0} (p : List ℕ → Option A) (s : List ℕ) (at n from k : ℕ) (list : List A) : Type 0 where
  pub left : ℕ
  pub counts : k + left ≡ n
  pub long : length list ≡ n
  pub field : field_of p n (tokens_at s at) ≡ onto (take k list) (field_of p left (tokens_at s from))

-- a first token t that writes x
one-read : {A : Type 0} (p : List ℕ → Option A) {left l : ℕ} {t : List ℕ} {ts tts : List (List ℕ)} {x : A} → left ≡ suc l → tts ≡ t ∷ ts → p t ≡ Some x →
    field_of p left tts ≡ with_first (Some x) (field_of p l ts)
one-read p a b c = rw (a, b, c)

module _ {A : Type 0} (p : List ℕ → Option A) (s : List ℕ) (at : ℕ) where
  pub begun : (list : List A) → Read p s at (length list) at 0 list
  begun list = record { left = length list; counts = omega arith; long = refl; field = onto-none _ }

module _ {A : Type 0} {p : List ℕ → Option A} {s : List ℕ} {at n from k : ℕ} {list : List A} (r : Read p s at n from k list) where
  pub ended : length list ≤ k → Gives p s at n (Some from) list
  ended h =
      let done : r.left ≡ 0 = omega (arith, r.counts, r.long) in
      let all : take k list ++ [] ≡ list = append-nil (take k list) ∙ take_all k list h in
      record {
        field = sym (r.field ∙ rw done (ap (λ (l : List A). Some (record { values = l; rest = tokens_at s from })) all));
        long = r.long;
      }

  module _ (space : k < length list) where
    one_left : r.left ≡ suc (r.left - 1)
    one_left = omega (arith, r.counts, r.long)

    pub gone : length s < from → Gives p s at n None list
    gone h = record { field = sym (r.field ∙ rw (one_left, none_left s from h)); long = r.long }

    module _ (begins : from ≤ length s) {m : ℕ} (cut : Cuts 32 (take (length s - from) (drop from s)) m) where
      pub within : from + m ≤ length s
      within = token_end s from begins cut

      pub bad : None ≡ p (take (from + m - from) (drop from s)) → Gives p s at n None list
      bad h =
          let nothing : p (take m (drop from s)) ≡ None = sym (rw (add-sub_cancel_left from m) at h) in
          record { field = sym (r.field ∙ rw (one_left, one_token s from m begins cut, nothing)); long = r.long }

      pub more : (v x : A) → x ≡ v → Some v ≡ p (take (from + m - from) (drop from s)) → Read p s at n (from + m + 1) (k + 1) (set list k x)
      more v x same h =
          let got : p (take m (drop from s)) ≡ Some x = sym (rw (add-sub_cancel_left from m) at h) ∙ ap (λ (a : A). Some a) (sym same) in
          let stored : take (k + 1) (set list k x) ≡ take k list ++ (x ∷ []) = rw add-one (take-suc-set list k x space) in
          let o = field_of p (r.left - 1) (tokens_at s (from + m + 1)) in
          record {
            left = r.left - 1;
            counts = omega (arith, r.counts, r.long);
            long = length-set list k x ∙ r.long;
            field =
                r.field
                ∙ ap (λ (f : Option (Field A)). onto (take k list) f) (one-read p one_left (one_token s from m begins cut) got)
                ∙ onto-more (take k list) x o
                ∙ ap (λ (l : List A). onto l o) (sym stored);
          }

-- ---- settled

pub one_field : {A : Type 0} {p : List ℕ → Option A} {s : List ℕ} {at n : ℕ} {r r' : Option ℕ} {list list' : List A} → Gives p s at n r list → Gives p s at n r' list' →
    field_in s list r ≡ field_in s list' r'
one_field a b = a.field ∙ sym b.field
