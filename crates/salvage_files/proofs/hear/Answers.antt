-- `hear`: each round takes some of the bytes, as `feed` does, and the page keeps its length.
use Rattle.std.proofs.Common.{◌≡◌, ℕ, ◌+◌, ◌-◌, ◌<◌, ◌≤◌, ◌∙◌, List, [], length, take, drop, refl, sym, ap, subst, arith, length-drop}
use lib.Seq.{take-add}
use Rattle.lists.proofs.Lent.{lent}
use Rattle.salvage.specs.Working.{Held, Feeds, feedings}
use Rattle.salvage.proofs.Feeds.{feedings-append, feeds-some}
use Rattle.salvage_files.proofs.hear.Goals as goal

nothing_yet : (h : Held) → h ≡ feedings h []
unfolding feedings
nothing_yet h = refl

-- some bytes more
more : (h₀ h h' : Held) (bs : List ℕ) (i n : ℕ) → h ≡ feedings h₀ (take i bs) → h' ≡ feedings h (take n (drop i bs)) → h' ≡ feedings h₀ (take (i + n) bs)
more h₀ h h' bs i n e f =
    f ∙ ap (λ (x : Held). feedings x (take n (drop i bs))) e ∙ sym (feedings-append h₀ (take i bs) (take n (drop i bs))) ∙ ap (feedings h₀) (sym (take-add i n bs))

-- the bytes that are lent are those from i on
module _ {h h' : Held} (bs : List ℕ) {page page' : List ℕ} (i : ℕ) {used size : ℕ} (f : Feeds h (take (length bs - i) (drop i bs)) page h' used size page') where
  from_there : Feeds h (drop i bs) page h' used size page'
  from_there = subst (λ (ds : List ℕ). Feeds h ds page h' used size page') (lent bs (length bs) i refl) f

  module _ (there : i < length bs) where
    few : i + used ≤ length bs
    few = omega (arith, from_there.few, length-drop i bs)

    some : 335 ≤ length page → 0 < used
    some room = feeds-some _ _ _ _ _ _ _ from_there (omega (arith, length-drop i bs)) room

pub loop-i-init : goal.loop-i-init
loop-i-init g c = record { within = omega arith; page = refl; so_far = nothing_yet _ }

pub loop-i-smaller : goal.loop-i-smaller
loop-i-smaller g c =
    let bs : List ℕ = c.args.bytes.now in
    let l = c.loop-i in
    let h : l.i < length bs = c.loop-i-test.true in
    let room : 335 ≤ length l.page = omega (arith, l.invariant.page, c.requires) in
    omega (arith, few bs l.i c.feed-f.ensures h, some bs l.i c.feed-f.ensures h room)

pub loop-i-preserved : goal.loop-i-preserved
loop-i-preserved g c =
    let bs : List ℕ = c.args.bytes.now in
    let l = c.loop-i in
    let h : l.i < length bs = c.loop-i-test.true in
    record {
      within = few bs l.i c.feed-f.ensures h;
      page = c.feed-f.auto.page ∙ l.invariant.page;
      so_far = more _ _ _ bs l.i _ l.invariant.so_far (from_there bs l.i c.feed-f.ensures).held;
    }
