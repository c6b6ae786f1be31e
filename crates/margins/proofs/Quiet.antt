-- A quiet line is what the theory needs: where each coordinate is at most n off, another symbol costs enough more, leaving the sent one costs little
-- enough, and the bound of specs/Latest is where the two meet. All of it is of lists; runs of calls follow in NoSix.
--   Nearly ac n r c   c can be sent, and r was heard at most n off it
--   detour_of c n      what leaving the sent symbol costs at most
--   strays            no best sequence costs more than two such detours more than the sent one, or one, if it ends low beside it
--   roomy             more than `latest_of` symbols apart cost more than that
--   few-pending       so no more symbols are pending
--   carried-in        what is at most 127 off can be heard
use mathlib.Core.Path.{◌≡◌, refl, ap, subst, ◌∙◌}
use mathlib.Core.Bool.{Bool, true, false}
use mathlib.Core.List.{List, [], ◌∷◌, reverse}
use Prim.Native.Nat.{ℕ, suc, ◌+◌, ◌-◌, ◌*◌, ◌/◌, ◌≤◌, ◌<◌}
use native.Mathlib.Nat.{mul-add, mul_assoc, mul-le-mul_left, mod-lt, mod-add-div}
use native.Mathlib.Omega.{arith}
use lib.IntN.{ℤ}
use lib.ListN.{length, take}
use Rattle.wei.specs.Symbol.{Symbol, first_label, last_label, Valid, symbols_from}
use Rattle.points.specs.declared.Accord.{Accord}
use Rattle.points.specs.declared.Point.{Point}
use Rattle.points.specs.Agreed.{is_accord}
use Rattle.maps.specs.PointMap.{first_at, second_at}
use Rattle.trellis.specs.Lists.{Every}
use Rattle.trellis.specs.Code.{Path, Allowed}
use Rattle.trellis.specs.Best.{Best, Longest}
use Rattle.trellis.specs.Measure.{Two, GoodStart}
use Rattle.trellis.specs.Measure as measure
use Rattle.trellis.specs.Along.{Along}
use Rattle.trellis.proofs.Words.{symbols-allowed}
use Rattle.trellis.proofs.IvEight.{allowed-valid}
use Rattle.trellis.proofs.Sent.{AlongPath, along-valid, path-map, sent-path}
use Rattle.distance.specs.declared.Spot.{Spot}
use Rattle.distance.specs.Distance.{SpotInRange}
use Rattle.nearest.specs.declared.Received.{Received}
use Rattle.nearest.specs.declared.Received.TheVariants.{Heard, Missing}
use Rattle.nearest.specs.Line.{InRange, BothInRange, line_measure, line_choice}
use Rattle.nearest.proofs.Laws.{line-chooses}
use Rattle.receiver_meaning.specs.Told.{code_of, pending_after}
use Rattle.openings.specs.declared.Start.{Start}
use Rattle.openings.specs.Given.{start_of}
use Rattle.sender.specs.declared.Sender.{Sender}
use Rattle.sender.specs.Run as sender
use Rattle.promises.specs.Clean.{StartsAtZero}
use Rattle.promises.specs.Noise.{Near, Landed, Carried}
use Rattle.promises.proofs.Follows.{told_of}
use Rattle.promises.proofs.Clean.{agreed-sent}
use Rattle.promises.proofs.Demand3.{some-longest}
use Rattle.promises.proofs.Meant.{spoken-many}
use Rattle.promises.proofs.Coordinates.{margin, near-in-range}
use Rattle.promises.proofs.Points.{InUse, in_use, first_below, last-below}
use Rattle.promises.proofs.Carried.{LandedOn, carried-along, sent-written}
use Rattle.margins.specs.Latest.{crowded, leaving, begun, latest_of, latest}
use Rattle.margins.proofs.Reach.{reach}
use Rattle.margins.proofs.Parted.{Clear, Strayed, Roomy, pending-few}
use Rattle.margins.proofs.Detour.{Handy, detour, detour-low}
use Rattle.margins.proofs.Gaps.{symbol-clear}
use Rattle.margins.proofs.Leaving.{most, symbol-any, symbol-crowded}

pub record Nearly (ac : Accord) (n : ℕ) (r : Two Received) (c : Symbol) : Type 0 where
  pub valid : Valid ac.u c
  pub near : LandedOn ac (Near n) r c

-- ---- how far best sequences stray

abbrev detour_of : Bool → ℕ → ℕ
detour_of true n = 2 * reach n
detour_of false n = most n

module _ (ac : Accord) (g : is_accord ac ≡ true) (n : ℕ) (l : n ≤ 127) where
  leaves : (e : Bool) → crowded ac ≡ e → (c : Symbol) → Valid ac.u c → (r : Two Received) → LandedOn ac (Near n) r c → Handy ac.u (line_measure ac) (detour_of e n) r c
  leaves true e = symbol-crowded n l ac g e
  leaves false e = symbol-any n l ac g

  strays : (b : measure.Start) (ys : List (Two Received)) (q : Path Symbol) → Allowed (code_of ac b) ys q → AlongPath (Nearly ac n) ys q →
      (s : ℕ) (p : Path Symbol) → Best (code_of ac b) ys s p → Strayed (code_of ac b) (detour_of (crowded ac) n) ys s p q
  strays b ys q a h s p k =
      let D = detour_of (crowded ac) n in
      let m = path-map (Nearly ac n) (Handy ac.u (line_measure ac) D) (λ r c z. leaves (crowded ac) refl c z.valid r z.near) ys q h in
      record { strayed = detour ac.u (line_measure ac) b D ys s p q k a m; low = detour-low ac.u (line_measure ac) b D ys s p q k a m }

-- ---- the bound

-- where L (x / y + 1) is more than 6 D: the last symbol apart is one too many
meet : (x y D L f : ℕ) → 0 < y → L ≡ 512 * y → 6 * D ≡ 512 * x → L ≤ D → Roomy L D f (x / y + f - 4)
meet x y D L f h e d k =
    let q : ℕ = x / y in
    let B : ℕ = q + f - 4 in
    let p : L * q ≡ 512 * (y * q) = ap (λ (l : ℕ). l * q) e ∙ mul_assoc 512 y q in
    let s : 6 * D < L * q + L = omega (arith, mod-lt x h, mod-add-div x y, p, e, d) in
    let t : L * (q + f) ≤ L * (B + 4) = mul-le-mul_left L (let z : q + f ≤ B + 4 = omega arith in z) in
    let m : L * (q + f) ≡ L * q + L * f = mul-add L q f in
    let u : L * (suc B + 4) ≡ L * (B + 4) + L * 1 = ap (λ (z : ℕ). L * z) (let z : suc B + 4 ≡ B + 4 + 1 = omega arith in z) ∙ mul-add L (B + 4) 1 in
    let v : L * (suc B + 3) ≡ L * (B + 4) = ap (λ (z : ℕ). L * z) (let z : suc B + 3 ≡ B + 4 = omega arith in z) in
    record { room = omega (arith, s, t, m, u); low-room = omega (arith, s, t, m, v, k) }

roomy : (c : Bool) (b : measure.Start) (n : ℕ) → n ≤ 127 → Roomy (margin n) (detour_of c n) (begun b) (latest_of c b n)
roomy true b n l = meet (leaving true n) (128 - n) (detour_of true n) (margin n) (begun b) (omega arith) (omega arith) (omega arith) (omega arith)
roomy false b n l = meet (leaving false n) (128 - n) (detour_of false n) (margin n) (begun b) (omega arith) (omega arith) (omega arith) (omega arith)

-- ---- in range

module _ (ac : Accord) (g : is_accord ac ≡ true) (n : ℕ) (l : n ≤ 127) where
  spot_in : (h : Spot) (m : ℕ) (p : Point) → InUse m p → Near n h p → SpotInRange h
  spot_in h m p a w =
      record { x-in = near-in-range h.x p.x n w.x-near l a.x-placed; y-in = near-in-range h.y p.y n w.y-near l a.y-placed }

  received-in : (r : Received) (m : ℕ) (p : Point) → InUse m p → Landed (Near n) r p → InRange r
  received-in (Heard h) m p a z = spot_in h m p a z
  received-in Missing m p a z = tt

  nearly-in : (r : Two Received) (c : Symbol) → Nearly ac n r c → BothInRange r
  unfolding first_at second_at
  nearly-in r c z =
      let v = z.valid in
      record {
        first-in = received-in r.first (first_label c) (first_at ac c) (in_use ac g (first_label c) c.w1 (first_below ac.u c v) v.w1-below) z.near.on-first;
        second-in = received-in r.second (last_label c) (second_at ac c) (in_use ac g (last_label c) c.w2 (last-below c) v.w2-below) z.near.on-second;
      }

  all_in : (rs : List (Two Received)) (cs : List Symbol) → Along (Nearly ac n) rs cs → Every BothInRange rs
  all_in [] [] h = tt
  all_in [] (c ∷ cs) h = absurd h
  all_in (r ∷ rs) [] h = absurd h
  all_in (r ∷ rs) (c ∷ cs) h = (nearly-in r c h.0, all_in rs cs h.1)

-- ---- what a sender's run was heard as

module _ (ac : Accord) (sent : List ℕ) (ps : List ℤ) (s : Sender) (k : sender.Talk ac sent ps s) (n : ℕ) (l : n ≤ 127) (took : List (Two Received)) (c : Carried (Near n) took ps) where
  abbrev cs : List Symbol
  cs = symbols_from ac.u 0 0 (take (length took) sent)

  nearly : Along (Nearly ac n) took (symbols_from ac.u 0 0 (take (length took) sent))
  nearly =
      along-valid (Valid ac.u) (LandedOn ac (Near n)) (Nearly ac n) (λ r c v i. record { valid = v; near = i }) took cs
      (allowed-valid ac.u 0 cs (symbols-allowed ac.u 0 0 (take (length took) sent))) (carried-along ac (Near n) 0 0 sent took (subst (Carried (Near n) took) (sent-written ac sent ps s k) c))

  pub carried-in : Every BothInRange took
  carried-in = all_in ac (agreed-sent ac sent ps s k) n l took cs nearly

  module _ (b : Start) (z : StartsAtZero b) where
    longest-pending : (m : List Symbol) → Longest (code_of ac (start_of b)) (reverse took) m → length (reverse took) - length m ≤ latest ac b n
    longest-pending m h =
        let g = agreed-sent ac sent ps s k in
        let q = sent-path ac.u (line_measure ac) (start_of b) (Nearly ac n) 0 (omega arith) z took cs nearly (symbols-allowed ac.u 0 0 (take (length took) sent)) in
        pending-few ac.u (line_measure ac) (line_choice ac) (line-chooses ac) (start_of b) (margin n) (detour_of (crowded ac) n) (latest ac b n) (roomy (crowded ac) (start_of b) n l)
        (reverse took) q.path q.allowed
        (path-map (Nearly ac n) (Clear ac.u (line_measure ac) (margin n)) (λ r c i. symbol-clear n l ac g c i.valid r i.near) (reverse took) q.path q.along)
        (strays ac g n l (start_of b) (reverse took) q.path q.allowed q.along) m h

    pub few-pending : GoodStart (start_of b) → (w : ℕ) → pending_after (told_of ac w b took) (reverse took) ≤ latest ac b n
    few-pending g w =
        let (m, h) = some-longest ac (start_of b) g took in
        omega (arith, longest-pending m h, spoken-many (told_of ac w b took) g (reverse took) m h)
