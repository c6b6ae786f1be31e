-- One symbol. Where the record is what it has to be after ys, then for the next symbol y the machine's counts, words and record are
-- the theory's: how many symbols are agreed and kept, what is released, and the record after it.
--   said_of u b ys         the words that are final after ys
--   new_words u b ys y     those that y makes final
--   Stepped u b ys y rx   what one symbol does, in the words of the theory
--   stepped               it does so
use mathlib.Core.Path.{◌≡◌, refl, sym, ap, ap₂, subst, ◌∙◌}
use mathlib.Core.Bool.{true}
use mathlib.Core.List.{List, [], ◌∷◌, ◌++◌}
use Prim.Native.Nat.{ℕ, suc, ◌+◌, ◌-◌, ◌%◌, ◌≤◌, ◌<◌}
use native.Mathlib.Omega.{arith}
use lib.Dec.{T, ltb→lt}
use lib.ListN.{length, get_or, take, drop, length-drop}
use borrow.Author.Tests.{lt-ltb}
use Rattle.registers.specs.Registers.{came_from}
use Rattle.registers.proofs.Moved.{moved_length}
use Rattle.trellis.specs.Best.{Surv}
use Rattle.trellis.specs.Choose.{up}
use Rattle.trellis.specs.Search.{Search}
use Rattle.trellis.specs.Common.{common, reach}
use Rattle.trellis.specs.Cells.{Off}
use Rattle.trellis.specs.Invariant.{Holds, Agreed, before, longer}
use Rattle.trellis.specs.Measure.{Start, GoodStart, Two}
use Rattle.trellis.specs.Same.{same_symbol}
use Rattle.trellis.specs.Speak.{after}
use Rattle.trellis.specs.Words.{word, turn_after, words_from, first_turn}
use Rattle.trellis.specs.Said.{spoken_words}
use Rattle.trellis.proofs.Invariant.{released, newly-is, holds-next}
use Rattle.trellis.proofs.Newest.{newest-kept}
use Rattle.trellis.proofs.Off.{off-up}
use Rattle.trellis.proofs.Speak.{spoken-new}
use Rattle.trellis.proofs.Spoken.{spoken-reach}
use Rattle.wei.specs.Symbol.{Symbol}
use Rattle.nearest.specs.declared.Received.{Received}
use Rattle.nearest.specs.declared.Weighed.{Weighed}
use Rattle.nearest.proofs.Laws.{line-chooses}
use Rattle.nearest.specs.Line.{line_measure, line_choice}
use Rattle.nearest.specs.Found.{weighed_of}
use Rattle.machine.specs.declared.Receiver.{Receiver}
use Rattle.sums.specs.Sums.{lowest}
use Rattle.select.specs.Select.{limit, from_at, first_step, followed, row_of}
use Rattle.receiver_meaning.specs.Told.{code_of}
use Rattle.picks.proofs.Kept.{kept-length}
use Rattle.machine.specs.Machine.{costs_of, new_sums, next_sums, next_steps, numbers_in, way_from, agreed_of, kept_of, released_of, grown}
use Rattle.receiver_meaning.proofs.Search.{search_of, laws, onward}
use Rattle.machine.proofs.Trellis.{some_up}
use Rattle.machine.proofs.Arrivals.{Room, up-sealed, off-new, off-lowered}
use Rattle.select.proofs.Followed.{followed-live, followed-below, followed-up}
use Rattle.machine.proofs.Picked.{step-at, step_from, before-is, new_symbol, symbol-is}
use Rattle.machine.proofs.Way.{way-grown}
use Rattle.machine.proofs.Agree.{agreed-most}
use Rattle.machine.proofs.Keeps.{Keeps}
use Rattle.machine.proofs.Bounds.{room, lowered-most, lowered-lowest}
use Rattle.points.specs.declared.Accord.{Accord}
use Rattle.points.specs.Agreed.{is_accord}

abbrev pub said_of : Accord → Start → List (Two Received) → List ℕ
said_of ac b ys = spoken_words ac.u (line_measure ac) (line_choice ac) b ys

abbrev pub new_words : Accord → Start → List (Two Received) → Two Received → List ℕ
new_words ac b ys y = drop (length (said_of ac b ys)) (said_of ac b (y ∷ ys))

pub record Stepped (ac : Accord) (b : Start) (ys : List (Two Received)) (y : Two Received) (rx : Receiver) : Type 0 where
  -- what is released was pending, and the words of it are those that y makes final
  pub few : agreed_of rx y ≤ rx.core.pending
  pub agreed : agreed_of rx y ≡ length (new_words ac b ys y)
  pub words : words_from rx.core.accord.u rx.core.turn (released_of rx y) ≡ new_words ac b ys y
  -- the others stay pending
  pub kept : kept_of rx y ≡ length (y ∷ ys) - length (said_of ac b (y ∷ ys))
  pub next : kept_of rx y ≤ 64 → Keeps ac b (y ∷ ys) (grown rx y)

module _ (b : Start) (g : GoodStart b) (ys : List (Two Received)) (y : Two Received)
    (rx : Receiver) (small : is_accord rx.core.accord ≡ true) (o : Keeps rx.core.accord b ys rx) where
  abbrev ac : Accord
  ac = rx.core.accord

  abbrev p : ℕ
  p = rx.core.pending

  abbrev way : ℕ → List Symbol
  way = way_from rx.core rx.registers rx.picks

  abbrev row : ℕ → Surv (Unit {0})
  row = row_of rx.sums

  abbrev new : ℕ → Surv (Unit {0})
  new = row_of (next_sums rx y)

  abbrev S : Search (code_of rx.core.accord b)
  S = search_of rx.core.accord b

  abbrev H : Holds (search_of rx.core.accord b) ys (row_of rx.sums) (way_from rx.core rx.registers rx.picks) rx.core.pending
  H = o.holds

  -- the sums with y
  fits : Room rx.sums (weighed_of ac y).costs
  fits = room ac b ys rx.sums H.less H.off o.low y

  off-sums : Off (search_of ac b) (y ∷ ys) H.less (row_of (new_sums rx y))
  off-sums = off-new ac b y rx.sums fits ys H.less H.off

  -- less the least of them
  abbrev less : ℕ
  less = H.less + lowest (new_sums rx y)

  off : Off (search_of ac b) (y ∷ ys) less (row_of (next_sums rx y))
  off = off-lowered ac b (y ∷ ys) H.less (new_sums rx y) off-sums

  -- the live states, and the state before each
  is_sum : (s : ℕ) → s < 16 → T (up (new s)) → get_or (new_sums rx y) s 0 < limit
  is_sum s h t =
      ltb→lt (get_or (new_sums rx y) s 0) limit
      (subst T (off-up S (laws ac b) (y ∷ ys) less new off s h ∙ sym (off-up S (laws ac b) (y ∷ ys) H.less (row_of (new_sums rx y)) off-sums s h) ∙ up-sealed (get_or (new_sums rx y) s 0) tt) t)

  sum_is : (s : ℕ) → s < 16 → get_or (new_sums rx y) s 0 < limit → T (up (new s))
  sum_is s h k =
      subst T
      (sym (off-up S (laws ac b) (y ∷ ys) less new off s h ∙ sym (off-up S (laws ac b) (y ∷ ys) H.less (row_of (new_sums rx y)) off-sums s h)
      ∙ up-sealed (get_or (new_sums rx y) s 0) tt ∙ lt-ltb (get_or (new_sums rx y) s 0) limit k)) tt

  some-live : (s : ℕ) × (s < 16) × T (up (new s))
  some-live = some_up ac b g (y ∷ ys) less new off

  live-from : (s : ℕ) → s < 16 → T (up (new s)) → before S y row s ≡ came_from (get_or (next_steps rx y) s 0)
  live-from s h t =
      before-is ac b y rx.sums fits s h (is_sum s h t)
      ∙ sym (step_from rx.sums (costs_of rx y) s h ∙ ap (from_at rx.sums (costs_of rx y)) (followed-live (new_sums rx y) s (is_sum s h t)))

  step_of : (i : ℕ) → i < 16 → (s : ℕ) × (s < 16) × T (up (new s)) × (before S y row s ≡ came_from (get_or (next_steps rx y) i 0))
  step_of i h =
      let (t, k, l) = some-live in
      let s = followed (new_sums rx y) i in
      let hs : s < 16 = followed-below (new_sums rx y) i h in
      let ls : get_or (new_sums rx y) s 0 < limit = followed-up (new_sums rx y) t k (is_sum t k l) i in
      (s, hs, sum_is s hs ls, before-is ac b y rx.sums fits s hs ls ∙ sym (step_from rx.sums (costs_of rx y) i h))

  agree : Agreed 16 (λ s. up (new s)) (λ s. way (before S y row s)) p (agreed_of rx y)
  unfolding agreed_of
  agree = agreed-most rx.core rx.registers rx.picks (next_steps rx y) (λ s. up (new s)) (before S y row) refl live-from step_of

  -- the newest symbol is never agreed
  newest : reach S (y ∷ ys) ≤ length ys
  newest = newest-kept ac.u (line_measure ac) (line_choice ac) (line-chooses ac) same_symbol b g y ys

  n-few : agreed_of rx y ≤ p
  n-few = agree.few

  n-is : reach S ys + agreed_of rx y ≡ reach S (y ∷ ys)
  n-is = newly-is S (laws ac b) (onward ac b g) y ys row new way p H less off newest (agreed_of rx y) agree

  final-is : common (search_of ac b) (y ∷ ys) ≡ common (search_of ac b) ys ++ released_of rx y
  unfolding released_of
  final-is =
      let (s, h, t, e) = step_of 0 (omega arith) in
      released S (laws ac b) (onward ac b g) y ys row new way p H less off newest (agreed_of rx y) agree s h t
      ∙ ap (λ (r : ℕ). common S ys ++ take (agreed_of rx y) (way r)) e

  -- the record after y
  grown-way : kept_of rx y ≤ 64 → (s : ℕ) → s < 16 → T (up (new s)) → way_from (grown rx y).core (grown rx y).registers (grown rx y).picks s ≡ drop (agreed_of rx y) (longer S y row way s)
  unfolding grown weighed_of
  grown-way h s l t =
      let W : Weighed = weighed_of ac y in
      let e : get_or (next_steps rx y) s 0 ≡ first_step rx.sums (costs_of rx y) s =
      step-at rx.sums (costs_of rx y) s l ∙ ap (first_step rx.sums (costs_of rx y)) (followed-live (new_sums rx y) s (is_sum s l t)) in
      way-grown rx.core rx.registers rx.picks (next_steps rx y) W.i3 (numbers_in rx y) _ _ (agreed_of rx y) o.picks-long o.slot-below o.pending-fits n-few h s l
      ∙ ap₂ (λ (r : ℕ) (c : Symbol). drop (agreed_of rx y) (way r ++ (c ∷ []))) (sym (live-from s l t))
      (ap (λ (x : ℕ). new_symbol ac y (x % 8)) e ∙ sym (symbol-is ac b y rx.sums fits s l (is_sum s l t) small))

  next-holds : kept_of rx y ≤ 64 → Holds (search_of ac b) (y ∷ ys) (row_of (grown rx y).sums) (way_from (grown rx y).core (grown rx y).registers (grown rx y).picks) (grown rx y).core.pending
  unfolding grown
  next-holds h =
      subst (Holds S (y ∷ ys) new (way_from (grown rx y).core (grown rx y).registers (grown rx y).picks)) (let e : suc p - agreed_of rx y ≡ kept_of rx y = omega arith in e)
      (holds-next S (laws ac b) (onward ac b g) y ys row new way p H less off newest (agreed_of rx y) agree
      (way_from (grown rx y).core (grown rx y).registers (grown rx y).picks) (λ s l t k. grown-way h s l t))

  grown-keeps : kept_of rx y ≤ 64 → Keeps ac b (y ∷ ys) (grown rx y)
  unfolding grown weighed_of
  grown-keeps h =
      let W : Weighed = weighed_of ac y in
      record {
        is_live = o.is_live;
        accord = refl;
        turn = ap (λ (q : ℕ). after turn_after q (released_of rx y)) o.turn ∙ sym (spoken-new (search_of ac b) (laws ac b) (word ac.u) turn_after (first_turn b) y ys (released_of rx y) final-is).1;
        holds = next-holds h;
        sums-long = refl;
        slot-below = omega arith;
        pending-fits = h;
        registers-long = moved_length (rx.core.pending + 1) rx.registers (next_steps rx y);
        picks-long = kept-length rx.picks rx.core.slot W.i3 (numbers_in rx y) o.picks-long o.slot-below;
        low = let (s, l, t) = some-live in lowered-lowest (new_sums rx y) s l (is_sum s l t);
        top = lowered-most (new_sums rx y);
      }

  said-many : (zs : List (Two Received)) → length (said_of ac b zs) ≡ reach (search_of ac b) zs
  said-many zs = spoken-reach ac.u (line_measure ac) (line_choice ac) (line-chooses ac) b g zs

  words_are : words_from ac.u rx.core.turn (released_of rx y) ≡ new_words ac b ys y
  unfolding spoken_words
  words_are = ap (λ (q : ℕ). words_from ac.u q (released_of rx y)) o.turn ∙ sym (spoken-new (search_of ac b) (laws ac b) (word ac.u) turn_after (first_turn b) y ys (released_of rx y) final-is).0

  here : Stepped ac b ys y rx
  here =
      record {
        few = n-few;
        agreed = omega (arith, n-is, said-many ys, said-many (y ∷ ys), length-drop (length (said_of ac b ys)) (said_of ac b (y ∷ ys)));
        words = words_are;
        kept = omega (arith, n-few, n-is, H.count, said-many (y ∷ ys));
        next = grown-keeps;
      }

-- the record's accord is ac
pub stepped : (ac : Accord) (b : Start) (ys : List (Two Received)) (y : Two Received) (rx : Receiver) → is_accord ac ≡ true → GoodStart b → Keeps ac b ys rx → Stepped ac b ys y rx
stepped ac b ys y rx small g o =
    subst (λ (v : Accord). is_accord v ≡ true → Keeps v b ys rx → Stepped v b ys y rx) o.accord (λ s e. here b g ys y rx s e) small o
