-- How what the code reads after `receiver`, token by token, is what the grammar says of all its tokens.
--   start-free, start-alone, start-more    the start: `free` and a map, one token that is not `free`, or more of them
--   window-alone, window_more              one token is no window and start; the window, and what stands after it
--   receiver-bad, receiver-plain, receiver-more   no width; a width and a map; a width, and a window and a start
--   more-follow                            where no map is named, a token stands after the width
use Prim.Native.Nat.{ℕ}
use mathlib.Core.Path.{◌≡◌, refl, ap, ◌∙◌}
use mathlib.Core.Bool.{Bool, true, false, cond}
use mathlib.Core.List.{List, []}
use native.Mathlib.Omega.{arith}
use lib.ListN.{length, take, drop}
use Rattle.std.specs.Prelude.{Option, Some, None}
use Rattle.points.specs.declared.Map.{Map}
use Rattle.points.specs.declared.Map.TheVariants.{Round}
use Rattle.text.specs.Bytes.{bytes}
use Rattle.text.specs.Token.{tokens, Cuts, same_bytes}
use Rattle.text.proofs.Cut.{after, alone, cut_off, no_more, some_more, first-and-rest}
use Rattle.line_fields.specs.Names.{map_named}
use Rattle.requests.specs.declared.Request.TheVariants as request
use Rattle.requests.specs.Verb.{any_number, line, on_map, state_of, start_of, window_by, window_of, open_by, receiver_of}

module _ {s : List ℕ} {n : ℕ} (cut : Cuts 32 s n) where
  -- ---- the start

  pub start-free : (u w : ℕ) {o : Option Map} → true ≡ same_bytes (take n s) (bytes "free") → o ≡ map_named (drop 1 (tokens s))
      → on_map (λ m. request.Free (line m u) w) o ≡ start_of u w (tokens s)
  start-free u w e f = rw (first-and-rest cut, ← e, f)

  pub start-more : (u w : ℕ) (b : Bool) → false ≡ same_bytes (take n s) (bytes "free") → (n ≡ length s → ⊥) → b ≡ same_bytes (take n s) (bytes "at")
      → cond b (state_of u w (tokens (after n s))) request.Unread ≡ start_of u w (tokens s)
  start-more u w b e h f = rw (cut_off cut h, ← e, f)

  pub start-alone : (u w : ℕ) → false ≡ same_bytes (take n s) (bytes "free") → n ≡ length s → request.Unread ≡ start_of u w (tokens s)
  start-alone u w e h = rw (first-and-rest cut, ← e, no_more cut h) (either (same_bytes (take n s) (bytes "at")))
    where
      either : (b : Bool) → request.Unread ≡ cond b request.Unread request.Unread
      either true = refl
      either false = refl

  -- ---- the window

  pub window-alone : (u : ℕ) → n ≡ length s → request.Unread ≡ window_of u (tokens s)
  window-alone u h = rw (alone cut h) (either (any_number s))
    where
      either : (o : Option ℕ) → request.Unread ≡ window_by u o []
      either (Some w) = refl
      either None = refl

  pub window_more : (u : ℕ) (o : Option ℕ) → (n ≡ length s → ⊥) → o ≡ any_number (take n s) → window_by u o (tokens (after n s)) ≡ window_of u (tokens s)
  window_more u o h e = rw (cut_off cut h, e)

  -- ---- the width

  pub receiver-bad : None ≡ any_number (take n s) → request.Unread ≡ receiver_of (tokens s)
  receiver-bad e = rw (first-and-rest cut, ← e)

  pub more-follow : None ≡ map_named (drop 1 (tokens s)) → n ≡ length s → ⊥
  more-follow e h =
      let f : None ≡ Some Round = e ∙ ap map_named (no_more cut h) in
      let z : ◌≡◌ {A = ℕ} 0 1 = cc in
      omega arith

  module _ {u : ℕ} (e : Some u ≡ any_number (take n s)) where
    opened : (w : Option Map) → w ≡ map_named (drop 1 (tokens s)) → open_by u w (drop 1 (tokens s)) ≡ receiver_of (tokens s)
    opened w f = rw (first-and-rest cut, ← e, f)

    pub receiver-plain : {m : Map} → Some m ≡ map_named (drop 1 (tokens s)) → request.Plain (line m u) ≡ receiver_of (tokens s)
    receiver-plain {m} f = opened (Some m) f

    pub receiver-more : None ≡ map_named (drop 1 (tokens s)) → window_of u (tokens (after n s)) ≡ receiver_of (tokens s)
    receiver-more f = rw (← some_more cut (more-follow f)) (opened None f)
