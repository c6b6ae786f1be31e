-- What a clean line is to the line's measure, and what a sender's run is on it.
--   exact        symbols heard exactly lie on one valid symbol at most
--   hits         symbols heard exactly lie on themselves
--   first-sent   the first m symbols heard are those of the first m words
--   read-back    the coordinates that symbols have, 128 times, are read as the symbols heard exactly
--   floats       coordinates of valid symbols, as f32, are heard as their coordinates, 128 times
--   width-sent   a sender that was opened has a width up to 8
--   accepted     the words that a sender accepted are words of its width
use mathlib.Core.Path.{◌≡◌, refl, sym, ap, ap₂, subst, ◌∙◌}
use mathlib.Core.Bool.{Bool, true, false}
use mathlib.Core.List.{List, [], ◌∷◌, ◌++◌, map}
use Prim.Native.Nat.{ℕ, zero, suc, ◌+◌, ◌*◌, ◌/◌}
use native.Mathlib.Omega.{arith}
use lib.IntN.{ℤ, pos, negsuc, neg_ℤ, nat_abs, ◌+ℤ◌, +ℤ_idl, +ℤ_invr, -ℤ-+ℤ_cancel, pos-*ℤ-pos, pos-*ℤ-negsuc}
use lib.ListN.{take}
use Rattle.points.specs.declared.Accord.{Accord}
use Rattle.points.specs.Agreed.{is_accord}
use Rattle.samples.specs.Given.{GivenSample}
use Rattle.samples.proofs.Laws.{sample-point-heard}
use Rattle.wei.specs.Word.{is_word}
use Rattle.wei.specs.State.{next_state}
use Rattle.wei.specs.Symbol.{Symbol, Valid, AllowedFrom, first_label, last_label, symbol_of, symbols_from}
use Rattle.points.specs.declared.Point.{Point}
use Rattle.points.specs.Turn.{Small}
use Rattle.maps.specs.PointMap.{first_at, second_at}
use Rattle.maps.proofs.Apart.{small_at, symbols-apart}
use Rattle.trellis.specs.Lists.{Every}
use Rattle.trellis.specs.Measure.{Two, counted, first_far, second_far, far_of}
use Rattle.trellis.specs.Clean.{Hits, Exact}
use Rattle.distance.specs.declared.Spot.{Spot}
use Rattle.distance.specs.Distance.{on_line, difference, square, distance}
use Rattle.nearest.specs.declared.Received.{Received}
use Rattle.nearest.specs.declared.Received.TheVariants.{Heard}
use Rattle.nearest.specs.Found.{heard_as}
use Rattle.nearest.specs.Line.{line_distance, line_measure}
use Rattle.sender.specs.declared.Sender.{Sender}
use Rattle.sender.specs.Send.{after, four, opening}
use Rattle.sender.specs.Run as sender
use Rattle.sender.proofs.Exactly.{one}
use Rattle.sender.proofs.Run.{along}
use Rattle.receiver_meaning.specs.Piece.{symbols_of}
use Rattle.promises.specs.Clean.{all_on_line, spot_at, heard_exactly, cleanly, floats_heard, samples_at}

-- ---- distance 0

no-square : (n : ℕ) → n * n ≡ 0 → n ≡ 0
no-square zero e = refl
no-square (suc n) e = absurd (omega arith)

none : (z : ℤ) → nat_abs z ≡ 0 → z ≡ pos 0
none (pos n) e = ap pos e
none (negsuc n) e = absurd (omega arith)

-- a received coordinate at distance 0 is the point's
there : (r c : ℤ) → square (difference r c) ≡ 0 → r ≡ on_line c
there r c e =
    sym (-ℤ-+ℤ_cancel r (on_line c)) ∙ ap (λ (z : ℤ). z +ℤ on_line c) (none (difference r c) (no-square (nat_abs (difference r c)) e)) ∙ +ℤ_idl (on_line c)

off_line : ℤ → ℤ
off_line (pos n) = pos (n / 128)
off_line (negsuc n) = negsuc (n / 128)

off-on : (c : ℤ) → off_line (on_line c) ≡ c
unfolding off_line
off-on (pos n) = ap off_line (pos-*ℤ-pos 128 n) ∙ ap pos (let e : 128 * n / 128 ≡ n = omega arith in e)
off-on (negsuc n) =
    let e : 128 * suc n ≡ suc (128 * n + 127) = omega arith in
    ap off_line (pos-*ℤ-negsuc 128 n ∙ ap (λ (k : ℕ). neg_ℤ (pos k)) e) ∙ ap negsuc (let f : (128 * n + 127) / 128 ≡ n = omega arith in f)

one-coordinate : (r a b : ℤ) → square (difference r a) ≡ 0 → square (difference r b) ≡ 0 → a ≡ b
one-coordinate r a b e f = sym (off-on a) ∙ ap off_line (sym (there r a e) ∙ there r b f) ∙ off-on b

one-point : (h : Spot) (p q : Point) → distance h p ≡ 0 → distance h q ≡ 0 → p ≡ q
unfolding distance
one-point h p q e f =
    let x : p.x ≡ q.x = one-coordinate h.x p.x q.x (omega arith) (omega arith) in
    let y : p.y ≡ q.y = one-coordinate h.y p.y q.y (omega arith) (omega arith) in
    λ i. record { x = x i; y = y i }

far-points : (ac : Accord) (g h : Spot) (c : Symbol) → (line_measure ac).far (heard_as (Heard g) (Heard h)) c ≡ counted (distance g (first_at ac c)) + counted (distance h (second_at ac c))
unfolding far_of first_far second_far line_distance first_at second_at
far-points ac g h c = refl

-- what counts for nothing is no distance
none-counted : (a b : ℕ) → counted a + counted b ≡ 0 → (a ≡ 0) × (b ≡ 0)
unfolding counted
none-counted a b e = (omega arith, omega arith)

-- both points heard
one_symbol : (ac : Accord) → is_accord ac ≡ true → (p q : Spot) → Exact ac.u (line_measure ac) (heard_as (Heard p) (Heard q))
one_symbol ac h p q c d v w e f =
    let (c₁, c₂) = none-counted (distance p (first_at ac c)) (distance q (second_at ac c)) (sym (far-points ac p q c) ∙ e) in
    let (d₁, d₂) = none-counted (distance p (first_at ac d)) (distance q (second_at ac d)) (sym (far-points ac p q d) ∙ f) in
    symbols-apart ac h c d v w (one-point p (first_at ac c) (first_at ac d) c₁ d₁) (one-point q (second_at ac c) (second_at ac d) c₂ d₂)

-- ---- symbols heard exactly

at-itself : (p : Point) → distance (spot_at p) p ≡ 0
unfolding distance
at-itself p = ap₂ (λ (a b : ℤ). square a + square b) (+ℤ_invr (on_line p.x)) (+ℤ_invr (on_line p.y))

counts-nothing : {d : ℕ} → d ≡ 0 → counted d ≡ 0
unfolding counted
counts-nothing e = omega arith

pub hits : (ac : Accord) (cs : List Symbol) → Hits (line_measure ac) (map (heard_exactly ac) cs) cs
hits ac [] = tt
hits ac (c ∷ cs) = (
  far-points ac (spot_at (first_at ac c)) (spot_at (second_at ac c)) c ∙ ap₂ (λ (a b : ℕ). a + b)
      (counts-nothing (at-itself (first_at ac c))) (counts-nothing (at-itself (second_at ac c))),
  hits ac cs,
)

pub exact : (ac : Accord) → is_accord ac ≡ true → (cs : List Symbol) → Every (Exact ac.u (line_measure ac)) (map (heard_exactly ac) cs)
exact ac h [] = tt
exact ac h (c ∷ cs) = (one_symbol ac h (spot_at (first_at ac c)) (spot_at (second_at ac c)), exact ac h cs)

take-symbols : (ac : Accord) (s q m : ℕ) (ns : List ℕ) → let u = ac.u in take m (map (heard_exactly ac) (symbols_from u s q ns)) ≡ map (heard_exactly ac) (symbols_from u s q (take m ns))
unfolding symbols_from
take-symbols ac s q zero ns = refl
take-symbols ac s q (suc m) [] = refl
take-symbols ac s q (suc m) (n ∷ ns) =
    let c = symbol_of ac.u s q n in
    ap (λ (l : List (Two Received)). heard_exactly ac c ∷ l) (take-symbols ac (next_state s c.i1 c.i2) (first_label c) m ns)

pub first-sent : (ac : Accord) (m : ℕ) (sent : List ℕ) → take m (cleanly ac sent) ≡ cleanly ac (take m sent)
first-sent ac m sent = take-symbols ac 0 0 m sent

pub read_back : (ac : Accord) (cs : List Symbol) → symbols_of (all_on_line (sender.coordinates_of ac cs)) ≡ map (heard_exactly ac) cs
unfolding four
read_back ac [] = refl
read_back ac (c ∷ cs) = ap (λ (l : List (Two Received)). heard_exactly ac c ∷ l) (read_back ac cs)

-- ---- as floats

small : (ac : Accord) (c : Symbol) → is_accord ac ≡ true → Valid ac.u c → Small (first_at ac c) × Small (second_at ac c)
unfolding first_at second_at
small ac c h v = (small_at ac h (first_label c) c.w1 v.w1-below, small_at ac h (last_label c) c.w2 v.w2-below)

point-floats : (p : Point) → Small p → (ps : List ℤ) → floats_heard ps ≡ samples_at (all_on_line ps) → floats_heard (p.x ∷ p.y ∷ ps) ≡ samples_at (all_on_line (p.x ∷ p.y ∷ ps))
point-floats p h ps e =
    ap₂ (λ (g : GivenSample) (l : List GivenSample). g ∷ l) (sample-point-heard p.x p.y (omega (arith, h.x-small)) (omega (arith, h.y-small))) e

pub floats : (ac : Accord) (s : ℕ) (cs : List Symbol) → is_accord ac ≡ true → AllowedFrom ac.u s cs →
    floats_heard (sender.coordinates_of ac cs) ≡ samples_at (all_on_line (sender.coordinates_of ac cs))
unfolding four
floats ac s [] h a = refl
floats ac s (c ∷ cs) h a =
    let (p, q) = small ac c h a.0.valid in
    let rest = sender.coordinates_of ac cs in
    point-floats (first_at ac c) p ((second_at ac c).x ∷ (second_at ac c).y ∷ rest) (point-floats (second_at ac c) q rest (floats ac (next_state s c.i1 c.i2) cs h a.1))

pub agreed-sent : (ac : Accord) (ws : List ℕ) (ps : List ℤ) (s : Sender) → sender.Talk ac ws ps s → is_accord ac ≡ true
agreed-sent ac ws ps s k = along (λ _ _ _. is_accord ac ≡ true) (λ _ _ _ _ _ e _. e) ac go ws ps s k
  where
    go : (opening ac).number ≡ 0 → is_accord ac ≡ true
    go z = is (is_accord ac) refl
      where
        is : (b : Bool) → is_accord ac ≡ b → b ≡ true
        is true e = refl
        is false e = absurd (omega (arith, (one ac).1 e, z))

-- ---- the words of a run

every-snoc : (u : ℕ) (ns : List ℕ) (n : ℕ) → Every (λ k. is_word u k ≡ true) ns → is_word u n ≡ true → Every (λ k. is_word u k ≡ true) (ns ++ (n ∷ []))
every-snoc u [] n e w = (w, tt)
every-snoc u (k ∷ ns) n e w = (e.0, every-snoc u ns n e.1 w)

pub every_take : {A : Type 0} (P : A → Type 0) (m : ℕ) (l : List A) → Every P l → Every P (take m l)
every_take P zero l e = tt
every_take P (suc m) [] e = tt
every_take P (suc m) (x ∷ l) e = (e.0, every_take P m l e.1)

run-words : (ac : Accord) (ws : List ℕ) (ps : List ℤ) (s : Sender) → sender.Talk ac ws ps s → (s.accord ≡ ac) × Every (λ n. is_word ac.u n ≡ true) ws
unfolding after
run-words ac =
    along (λ ws _ s. (s.accord ≡ ac) × Every (λ n. is_word ac.u n ≡ true) ws)
    (λ ws ps s n out p d. (ap (λ (x : Sender). x.accord) d.sender ∙ p.0, every-snoc ac.u ws n p.1 (subst (λ (v : Accord). is_word v.u n ≡ true) p.0 d.word))) ac (λ _. (refl, tt))

pub accepted : (ac : Accord) (ws : List ℕ) (ps : List ℤ) (s : Sender) → sender.Talk ac ws ps s → Every (λ n. is_word ac.u n ≡ true) ws
accepted ac ws ps s k = (run-words ac ws ps s k).1
