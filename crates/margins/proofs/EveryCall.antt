-- What a line is guaranteed, where some of the library's calls are recorded and some are not, in any mix (promises/specs/EveryCall): such a run is a run of
-- plain calls (promises/proofs/EveryCall), and a recorded piece is refused by a 5 or a 6 exactly where its symbols are.
--   back, begins, noisy-back, noisy-begins   words come back through noise, as in promises/proofs/Noise
--   piece-fair          what a recorded piece is answered with: 0, 8 or 10
--   mixed-guaranteed    for every n up to 127 and every window that is wide enough
use mathlib.Core.Path.{◌≡◌, refl, sym, ap, subst, ◌∙◌}
use mathlib.Core.Logic.{inl, inr}
use mathlib.Core.Bool.{Bool, true, false, cond, ◌&&◌}
use mathlib.Core.List.{List, [], ◌∷◌, ◌++◌, reverse, reverse-append, append_assoc, IsPrefix}
use Prim.Native.Nat.{ℕ, ◌-◌, ◌≤◌, ◌<◌}
use native.Mathlib.Omega.{arith}
use borrow.Author.Tests.{le-ltb}
use lib.Dec.{eqb, ltb}
use lib.IntN.{ℤ}
use lib.ListN.{length, take}
use Rattle.points.specs.declared.Accord.{Accord}
use Rattle.calls.specs.Calls.{fresh}
use Rattle.trellis.specs.Lists.{Every}
use Rattle.trellis.specs.Measure.{Two, GoodStart}
use Rattle.trellis.specs.Words.{as_heard}
use Rattle.nearest.specs.declared.Received.{Received}
use Rattle.nearest.specs.Line.{BothInRange}
use Rattle.reasons.specs.Reason.{Reason, reason}
use Rattle.receiver_meaning.specs.Told.{Told, speaker_of, pending_after, fault_of, judge_symbol, with_heard}
use Rattle.receiver_meaning.specs.Piece.{Piece}
use Rattle.receiver_meaning.proofs.Telling.{no-fault}
use Rattle.openings.specs.declared.Start.{Start}
use Rattle.openings.specs.Given.{start_of}
use Rattle.sender.specs.declared.Sender.{Sender}
use Rattle.sender.specs.Run as sender
use Rattle.record_write.specs.Front.{symbol_records, space_of}
use Rattle.recorder.specs.Recorded.{judge_recorded, Walked, stops_before, goes_on, walk_recorded, PieceRecorded, piece_recorded}
use Rattle.c_states.specs.State.{sender_in, receiver_in}
use Rattle.promises.specs.Clean.{StartsAtZero}
use Rattle.promises.specs.Noise.{Near, OnlyNearest, Carried}
use Rattle.promises.specs.Library.{LibrarySends}
use Rattle.promises.specs.EveryCall.{LibraryMixed, LibraryMixedEnded}
use Rattle.promises.proofs.Carried.{carried-front}
use Rattle.promises.proofs.Follows.{told_of, follows}
use Rattle.promises.proofs.Library as library
use Rattle.promises.proofs.EveryCall.{library-plainly, library-ended-plainly, piece-recorded}
use Rattle.margins.specs.Latest.{latest}
use Rattle.margins.specs.Guarantee.{Fair, LibraryGuarantee, MixedGuarantee}
use Rattle.margins.proofs.Quiet.{few-pending, carried-in}
use Rattle.margins.proofs.NoSix.{every-right}
use Rattle.margins.proofs.Library.{library-guaranteed}

-- ---- through noise

module _ (k : Accord) (w : ℕ) (b : Start) (z : StartsAtZero b) (words : List ℕ) (ps : List ℤ) (state : List ℕ) (s : LibrarySends k words ps state) (took : List (Two Received)) (ws : List ℕ) where
  pub back : Carried (OnlyNearest k) took ps → LibraryMixedEnded k w b took ws → ws ≡ take (length took) (as_heard (start_of b) words)
  back c e = library.back k w b z words ps state s took ws c (library-ended-plainly k w b e)

  pub begins : Carried (OnlyNearest k) took ps → (rx : List ℕ) → LibraryMixed k w b took ws rx → IsPrefix ws (as_heard (start_of b) words)
  begins c rx h = library.begins k w b z words ps state s took ws c rx (library-plainly k w b h)

  pub noisy-back : Carried (Near 127) took ps → LibraryMixedEnded k w b took ws → ws ≡ take (length took) (as_heard (start_of b) words)
  noisy-back c e = library.noisy-back k w b z words ps state s took ws c (library-ended-plainly k w b e)

  pub noisy-begins : Carried (Near 127) took ps → (rx : List ℕ) → LibraryMixed k w b took ws rx → IsPrefix ws (as_heard (start_of b) words)
  noisy-begins c rx h = library.noisy-begins k w b z words ps state s took ws c rx (library-plainly k w b h)

-- ---- a recorded piece

-- a symbol in range that the window has room for is taken, or the output or the bytes are too short
judge-fair : (t : Told) (ys : List (Two Received)) (y : Two Received) (room bytes : ℕ) → BothInRange y → pending_after t (y ∷ ys) ≤ t.window → Fair (judge_recorded t ys y room bytes).number
unfolding judge_recorded judge_symbol
judge-fair t ys y room bytes i few =
    rw (le-ltb (fault_of y) 4 (omega (arith, no-fault y i)), le-ltb t.window (pending_after t (y ∷ ys)) few) (go (ltb room (length (fresh (speaker_of t) ys y))) (ltb bytes (space_of (symbol_records y (fresh (speaker_of t) ys y)))))
  where
    go : (c d : Bool) → let j = cond c (reason 8) (reason 0) in Fair (cond (eqb j.number 0 && d) (reason 8) j).number
    go true d = inr (inl refl)
    go false true = inr (inl refl)
    go false false = inl refl

-- of each symbol of zs, heard after ys and those before it
abbrev Held : Told → List (Two Received) → List (Two Received) → Type 0
Held t ys [] = Unit {0}
Held t ys (z ∷ zs) = BothInRange z × (pending_after t (z ∷ ys) ≤ t.window) × Held t (z ∷ ys) zs

either-fair : (c : Bool) (x y : Walked) → Fair x.why.number → Fair y.why.number → Fair (cond c x y).why.number
either-fair true x y f g = f
either-fair false x y f g = g

walk-fair : (t : Told) (ys zs : List (Two Received)) (room bytes : ℕ) → Held t ys zs → Fair (walk_recorded t ys zs room bytes).why.number
unfolding walk_recorded
walk-fair t ys [] room bytes h = inl refl
walk-fair t ys (z ∷ zs) room bytes h =
    let ws = fresh (speaker_of t) ys z in
    let rs = symbol_records z ws in
    either-fair (eqb (judge_recorded t ys z room bytes).number 0) (goes_on ws rs (walk_recorded t (z ∷ ys) zs (room - length ws) (bytes - space_of rs))) (stops_before ys (judge_recorded t ys z room bytes))
    (walk-fair t (z ∷ ys) zs (room - length ws) (bytes - space_of rs) h.2) (judge-fair t ys z room bytes h.0 h.1)

piece-fair : (t : Told) (p : Piece) (room bytes : ℕ) → Held t t.heard p.symbols → Fair (piece_recorded t p room bytes).reason.number
unfolding piece_recorded
piece-fair t p room bytes h = go p.fits
  where
    go : (c : Bool) → let e = walk_recorded t t.heard p.symbols room bytes in
        Fair (cond {A = PieceRecorded} c (record { reason = e.why; taken = e.taken; words = e.words; records = e.records; told = with_heard t e.heard }) (record { reason = reason 10; taken = 0; words = []; records = []; told = t })).reason.number
    go true = walk-fair t t.heard p.symbols room bytes h
    go false = inr (inr refl)

module _ (ac : Accord) (sent : List ℕ) (ps : List ℤ) (s : Sender) (k : sender.Talk ac sent ps s) (n : ℕ) (l : n ≤ 127) (b : Start) (z : StartsAtZero b) (w : ℕ) (wide : latest ac b n ≤ w)
    (i : GoodStart (start_of b)) (begun : List (Two Received)) where
  -- what is carried is held, symbol by symbol
  held : (took zs : List (Two Received)) → Carried (Near n) (took ++ zs) ps → Held (told_of ac w b begun) (reverse took) zs
  held took [] c = tt
  held took (y ∷ zs) c =
      let on : List (Two Received) = took ++ (y ∷ []) in
      let c' : Carried (Near n) (on ++ zs) ps = subst (λ (x : List (Two Received)). Carried (Near n) x ps) (sym (append_assoc took (y ∷ []) zs)) c in
      let to : Carried (Near n) on ps = carried-front (Near n) on zs ps c' in
      let r : reverse on ≡ y ∷ reverse took = reverse-append took (y ∷ []) in
      let few : pending_after (told_of ac w b begun) (y ∷ reverse took) ≤ latest ac b n =
      subst (λ (e : List (Two Received)). pending_after (told_of ac w b begun) e ≤ latest ac b n) r (few-pending ac sent ps s k n l on to b z i w) in (
        (every-right BothInRange took (y ∷ []) (carried-in ac sent ps s k n l on to)).0,
        omega (arith, few, wide),
        subst (λ (e : List (Two Received)). Held (told_of ac w b begun) e zs) r (held on zs c'),
      )

pub mixed-guaranteed : (ac : Accord) (b : Start) → StartsAtZero b → (n w : ℕ) → n ≤ 127 → latest ac b n ≤ w → MixedGuarantee ac b n w
mixed-guaranteed ac b z n w l wide =
    let g : LibraryGuarantee ac b n w = library-guaranteed ac b z n w l wide in
    record {
      no_six = λ sent ps s k took ws state h. g.no_six sent ps s k took ws state (library-plainly ac w b h);
      no-six-recorded = λ sent ps s k took ws state h q c out bytes told long m state' o bytes' told' a.
          let f = (follows ac w b took ws (receiver_in state) (library.talks ac w b took ws state (library-plainly ac w b h))).fine.good_start in
          let d = piece_recorded (told_of ac w b took) q (length out) (length bytes) in
          let e : m ≡ d.reason.number = ap (λ (r : Reason). r.number) (piece-recorded ac w b took ws state h out bytes told long m state' o bytes' told' q a).0 in
          subst Fair (sym e) (piece-fair (told_of ac w b took) q (length out) (length bytes) (held ac sent ps (sender_in s) (library.sent ac sent ps s k) n l b z w wide f took took q.symbols c));
      pending = λ sent ps s k v took ws state h. g.pending sent ps s k v took ws state (library-plainly ac v b h);
      no-late = λ sent ps s k v took ws state h. g.no-late sent ps s k v took ws state (library-plainly ac v b h);
    }
