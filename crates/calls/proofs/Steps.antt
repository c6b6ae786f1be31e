-- One step after another: what a piece, a call and a list of calls leave of what was heard and of what is owed. Each goes by
-- cases over the way that specs/Calls goes.
--   walk-heard, calls-heard   in the order of time: what was heard before, then what was taken
--   walk-said, call-said, calls-said   what was said before and what is said now is what is owed now
use Prim.Native.Nat.{ℕ, ◌-◌}
use mathlib.Core.Path.{◌≡◌, sym, ap, ◌∙◌}
use mathlib.Core.Bool.{Bool, true, false}
use mathlib.Core.List.{List, [], ◌∷◌, ◌++◌, append-nil, append_assoc, reverse, reverse-cons}
use lib.Dec.{leb}
use lib.ListN.{length, take}
use Rattle.calls.specs.Calls.{Speaker, Speaks, Judge, fresh, rest, Ended, after, walk, Line, Call, piece, finish, refused, ending, open-call, call_at, call, calls, Owed, Said}
use Rattle.calls.proofs.Prefixes.{joined}

-- ── what was heard ──
module _ (S : Speaker) (J : Judge S) where
  open S use {Y}
  open J use {R, judge, good}

  pub walk-heard : (ys zs : List Y) (room : ℕ) → reverse (walk S J ys zs room).heard ≡ reverse ys ++ take (walk S J ys zs room).taken zs
  unfolding walk
  walk-heard ys [] room = sym (append-nil (reverse ys))
  walk-heard ys (z ∷ zs) room = go (judge ys z room) (good (judge ys z room)) (walk S J (z ∷ ys) zs (room - length (fresh S ys z))) (walk-heard (z ∷ ys) zs (room - length (fresh S ys z)))
    where
      go : (r : R) (b : Bool) (e : Ended S J) → reverse e.heard ≡ reverse (z ∷ ys) ++ take e.taken zs →
          reverse (after S J ys z r b e).heard ≡ reverse ys ++ take (after S J ys z r b e).taken (z ∷ zs)
      go r true e h = h ∙ ap (λ (l : List Y). l ++ take e.taken zs) (reverse-cons z ys) ∙ append_assoc (reverse ys) (z ∷ []) (take e.taken zs)
      go r false e h = sym (append-nil (reverse ys))

  ending-heard : (ys : List Y) (b : Bool) → reverse (ending S ys b).line.heard ≡ reverse ys ++ (ending S ys b).took
  ending-heard ys true = sym (append-nil (reverse ys))
  ending-heard ys false = sym (append-nil (reverse ys))

  open-heard : (ys : List Y) (k : Call S) → reverse (open-call S J ys k).line.heard ≡ reverse ys ++ (open-call S J ys k).took
  open-heard ys (piece zs room) = walk-heard ys zs room
  open-heard ys (finish room) = ending-heard ys (leb (length (rest S ys)) room)
  open-heard ys refused = sym (append-nil (reverse ys))

  at-heard : (ys : List Y) (b : Bool) (k : Call S) → reverse (call_at S J ys b k).line.heard ≡ reverse ys ++ (call_at S J ys b k).took
  at-heard ys true k = open-heard ys k
  at-heard ys false k = sym (append-nil (reverse ys))

  pub calls-heard : (l : Line S) (ks : List (Call S)) → reverse (calls S J l ks).line.heard ≡ reverse l.heard ++ (calls S J l ks).took
  unfolding calls
  calls-heard l [] = sym (append-nil (reverse l.heard))
  calls-heard l (k ∷ ks) =
      calls-heard (call S J l k).line ks
      ∙ rw (at-heard l.heard l.is_open k) (append_assoc (reverse l.heard) (call S J l k).took (calls S J (call S J l k).line ks).took)

-- ── what was said ──
module _ (S : Speaker) (L : Speaks S) (J : Judge S) where
  open S use {Y, W, spoken, answered}
  open J use {R, judge, good}

  pub walk-said : (ys zs : List Y) (room : ℕ) → spoken ys ++ (walk S J ys zs room).said ≡ spoken (walk S J ys zs room).heard
  unfolding walk
  walk-said ys [] room = append-nil (spoken ys)
  walk-said ys (z ∷ zs) room = go (judge ys z room) (good (judge ys z room)) (walk S J (z ∷ ys) zs (room - length (fresh S ys z))) (walk-said (z ∷ ys) zs (room - length (fresh S ys z)))
    where
      go : (r : R) (b : Bool) (e : Ended S J) → spoken (z ∷ ys) ++ e.said ≡ spoken e.heard →
          spoken ys ++ (after S J ys z r b e).said ≡ spoken (after S J ys z r b e).heard
      go r true e h = sym (append_assoc (spoken ys) (fresh S ys z) e.said) ∙ rw (joined (spoken ys) (spoken (z ∷ ys)) (L.grows ys z)) h
      go r false e h = append-nil (spoken ys)

  ending-said : (ys : List Y) (b : Bool) (ws : List W) → ws ≡ spoken ys → Said S (ending S ys b).line (ws ++ (ending S ys b).said)
  ending-said ys true ws h = rw h (joined (spoken ys) (answered ys) (L.within ys))
  ending-said ys false ws h = append-nil ws ∙ h

  open_said : (ys : List Y) (k : Call S) (ws : List W) → ws ≡ spoken ys → Said S (open-call S J ys k).line (ws ++ (open-call S J ys k).said)
  open_said ys (piece zs room) ws h = rw h (walk-said ys zs room)
  open_said ys (finish room) ws h = ending-said ys (leb (length (rest S ys)) room) ws h
  open_said ys refused ws h = append-nil ws ∙ h

  at-said : (ys : List Y) (b : Bool) (k : Call S) (ws : List W) → Owed S ys b ws → Said S (call_at S J ys b k).line (ws ++ (call_at S J ys b k).said)
  at-said ys true k ws h = open_said ys k ws h
  at-said ys false k ws h = append-nil ws ∙ h

  pub call-said : (l : Line S) (k : Call S) (ws : List W) → Said S l ws → Said S (call S J l k).line (ws ++ (call S J l k).said)
  call-said l k ws h = at-said l.heard l.is_open k ws h

  pub calls-said : (l : Line S) (ks : List (Call S)) (ws : List W) → Said S l ws → Said S (calls S J l ks).line (ws ++ (calls S J l ks).said)
  unfolding calls
  calls-said l [] ws h = rw append-nil h
  calls-said l (k ∷ ks) ws h = rw (← append_assoc) (calls-said (call S J l k).line ks (ws ++ (call S J l k).said) (call-said l k ws h))
