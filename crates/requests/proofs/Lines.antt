-- How what the code reads after `card`, token by token, is what specs/Asked says of all its tokens.
--   no-map, no-numbers, too_many, asked     the outcomes of a line
--   either_way                              what holds of a verdict, whichever, and of what is unread, holds of what any line asks for
use Prim.Native.Nat.{ℕ, ◌+◌, ◌≤◌, ◌<◌}
use mathlib.Core.Path.{◌≡◌, sym, ap, ◌∙◌}
use mathlib.Core.Bool.{Bool, true, false, cond}
use mathlib.Core.List.{List, [], ◌∷◌}
use native.Mathlib.Omega.{arith}
use native.Mathlib.Decide.{ℕ_discrete}
use borrow.Author.Tests.{le-leb, lt-leb}
use lib.Dec.{leb}
use lib.ListN.{length, take, drop, get_or}
use Rattle.text.specs.Token.{tokens, Cuts}
use Rattle.text.proofs.Digits.{to_end}
use Rattle.text.proofs.Cut.{no_more, some_more, first-and-rest}
use Rattle.number_lists.specs.Many.{number_in}
use Rattle.line_fields.specs.Fields.{tokens_at, Field, field_of, Gives}
use Rattle.points.specs.declared.Map.{Map}
use Rattle.points.specs.declared.Accord.{Accord}
use Rattle.std.specs.Prelude.{Option, Some, None}
use Rattle.requests.specs.declared.Request.{Request}
use Rattle.requests.specs.declared.Request.TheVariants as request
use Rattle.requests.specs.Verb.{line, on_map}
use Rattle.card.specs.Card.{Card}
use Rattle.card.specs.Check.{accepts}
use Rattle.requests.specs.Asked.{map_of, sizes_of, card_in, verdict_on, checked_of, numbers_of, asked_of}
use Rattle.requests.proofs.Filling.{field_at, field-bad}

module _ {s : List ℕ} {n : ℕ} (cut : Cuts 32 s n) where
  after_first : tokens_at s (n + 1) ≡ drop 1 (tokens s)
  after_first = go (ℕ_discrete n (length s))
    where
      go : Dec (n ≡ length s) → tokens_at s (n + 1) ≡ drop 1 (tokens s)
      go (yes e) = rw (lt-leb (n + 1) (length s) (omega arith), no_more cut e)
      go (no e) = rw (le-leb (n + 1) (length s) (omega (arith, cut.within)), some_more cut e, to_end (n + 1) s)

  pub no-map : None ≡ map_of (take n s) → request.Unread ≡ asked_of (tokens s)
  no-map e = rw (first-and-rest cut, ← e)

  module _ {m : Map} (e : Some m ≡ map_of (take n s)) {r : Option ℕ} {head : List ℕ} (g : Gives number_in s (n + 1) 2 r head) where
    by-numbers : (o : Option (Field ℕ)) → field_of number_in 2 (tokens_at s (n + 1)) ≡ o → numbers_of m o ≡ asked_of (tokens s)
    by-numbers o f = rw (first-and-rest cut, ← e) (ap (numbers_of m) (sym (ap (field_of number_in 2) (sym after_first) ∙ f)))

    pub no-numbers : r ≡ None → request.Unread ≡ asked_of (tokens s)
    no-numbers f = by-numbers None (field-bad g f)

    module _ {q : ℕ} (f : r ≡ Some q) where
      pub too_many : 64 < get_or head 1 0 → request.Unread ≡ asked_of (tokens s)
      too_many h = rw (lt-leb (get_or head 1 0) 64 h) at (by-numbers _ (field_at g f))

      pub asked : get_or head 1 0 ≤ 64 → checked_of (line m (get_or head 0 0)) (get_or head 1 0) (tokens_at s q) ≡ asked_of (tokens s)
      asked h = rw (le-leb (get_or head 1 0) 64 h) at (by-numbers _ (field_at g f))

-- ---- what a line can ask for

module _ (P : Request → Type 0) (verdict : (b : Bool) → P (request.Card b)) (unread : P request.Unread) where
  of-card : (k : Accord) (o : Option Card) → P (verdict_on k o)
  of-card k (Some c) = verdict (accepts k c)
  of-card k None = unread

  of-count : (b : Bool) (r : Request) → P r → P (cond b r request.Unread)
  of-count true r h = h
  of-count false r h = unread

  of-numbers : (m : Map) (o : Option (Field ℕ)) → P (numbers_of m o)
  of-numbers m (Some f) = of-count (leb (get_or f.values 1 0) 64) _ (of-card (line m (get_or f.values 0 0)) (card_in (sizes_of (get_or f.values 1 0)) f.rest))
  of-numbers m None = unread

  pub either_way : (ts : List (List ℕ)) → P (asked_of ts)
  either_way [] = unread
  either_way (t ∷ ts) = by (map_of t)
    where
      by : (w : Option Map) → P (on_map (λ m. numbers_of m (field_of number_in 2 ts)) w)
      by (Some m) = of-numbers m (field_of number_in 2 ts)
      by None = unread
