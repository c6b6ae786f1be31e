-- NO 6, AND NO WORD LATE. Where each received coordinate is at most n off, for any n up to 127, a word is final after at most `latest ac b n` more
-- symbols, and a receiver whose window is that wide never answers 6: whatever the words, the width, the map and the cut into calls, with a free
-- start or start 0. Nor is there a 5: a piece that goes on with what was sent is taken whole, or stops for want of room in the output, or does not
-- fit, and nothing else. Instances has the numbers.
--
-- `sender.Talk ac sent ps s` is any run of calls on a sender, `Talk ac w b took ws rx` on a receiver, and `Carried (Near n) rs ps` says that what was
-- received is at most n off what was sent (promises/specs/Noise). `Hears rx q out r o` is any result that the receiver's promise allows for the piece q,
-- which has marks or none: a symbol that is carried misses no point.
--   few          after every symbol no more than `latest ac b n` are pending
--   all_but      so the words of all symbols but the last so many are written, and they are the words sent
--   fair         what 01's table gives for such a piece; only-room, and so the receiver
--   guaranteed   all of it: for every n up to 127 and every window that is wide enough
use mathlib.Core.Path.{◌≡◌, refl, sym, ap, subst, ◌∙◌}
use mathlib.Core.Logic.{inl, inr}
use mathlib.Core.List.{List, [], ◌∷◌, ◌++◌, reverse, reverse-append, append_assoc, IsPrefix}
use Prim.Native.Nat.{ℕ, ◌+◌, ◌-◌, ◌≤◌}
use native.Mathlib.Omega.{arith}
use lib.IntN.{ℤ}
use lib.ListN.{length, length-reverse, take, drop, take-append-drop}
use lib.Seq.{take-take, take_at}
use Rattle.points.specs.declared.Accord.{Accord}
use Rattle.trellis.specs.Lists.{Every}
use Rattle.trellis.specs.Measure.{Two, GoodStart}
use Rattle.trellis.specs.Words.{as_heard}
use Rattle.trellis.proofs.Lists.{take-prefix}
use Rattle.nearest.specs.declared.Received.{Received}
use Rattle.nearest.specs.Line.{BothInRange}
use Rattle.reasons.specs.Reason.{Reason, given_of}
use Rattle.receiver_meaning.specs.Told.{pending_after}
use Rattle.receiver_meaning.specs.Piece.{Piece}
use Rattle.receiver_meaning.proofs.Telling.{no-fault}
use Rattle.openings.specs.declared.Start.{Start}
use Rattle.openings.specs.Given.{start_of}
use Rattle.openings.specs.Opening.{Receiver}
use Rattle.receiver.specs.declared.Answer.{Answer}
use Rattle.receiver.specs.Promise.{Hears}
use Rattle.sender.specs.declared.Sender.{Sender}
use Rattle.sender.specs.Run as sender
use Rattle.promises.specs.Talk.{Talk}
use Rattle.promises.specs.Clean.{StartsAtZero}
use Rattle.promises.specs.Noise.{Near, Carried}
use Rattle.promises.specs.Table as table
use Rattle.promises.proofs.Follows.{told_of, follows}
use Rattle.promises.proofs.Clean.{agreed-sent}
use Rattle.promises.proofs.Carried.{carried-front, near-serves}
use Rattle.promises.proofs.Served.{served-begins}
use Rattle.promises.proofs.Demand1.{hears}
use Rattle.margins.specs.Latest.{latest}
use Rattle.margins.specs.Guarantee.{Fair, Guarantee}
use Rattle.margins.proofs.Quiet.{few-pending, carried-in}

pub every-right : {A : Type 0} (Q : A → Type 0) (xs zs : List A) → Every Q (xs ++ zs) → Every Q zs
every-right Q [] zs h = h
every-right Q (x ∷ xs) zs h = every-right Q xs zs h.1

-- a beginning of m is the first of it
begun-with : {A : Type 0} (xs ys : List A) (m : ℕ) → IsPrefix xs ys → m ≤ length xs → take m ys ≡ take m xs
begun-with xs ys m (zs, e) h =
    ap (take m) (sym e) ∙ sym (take-take m (length xs) (xs ++ zs) h) ∙ ap (take m) (take_at xs zs (length xs) refl)

module _ (ac : Accord) (sent : List ℕ) (ps : List ℤ) (s : Sender) (k : sender.Talk ac sent ps s) (n : ℕ) (l : n ≤ 127) (b : Start) (z : StartsAtZero b) where
  -- ---- how late a word can be
  module _ (w : ℕ) (took : List (Two Received)) (ws : List ℕ) (rx : Receiver) (h : Talk ac w b took ws rx) (c : Carried (Near n) took ps) where
    pub few : length took ≤ length ws + latest ac b n
    few =
        let f = follows ac w b took ws rx h in
        omega (arith, few-pending ac sent ps s k n l took c b z f.fine.good_start w, ap length f.said, length-reverse took)

    pub all_but : (v : ℕ) → latest ac b n ≤ v → IsPrefix (take (length took - v) (as_heard (start_of b) sent)) ws
    all_but v i =
        let m : ℕ = length took - v in
        let e = begun-with ws (as_heard (start_of b) sent) m (served-begins ac sent ps s k (Near n) (near-serves ac (agreed-sent ac sent ps s k) n l) took c w b z ws rx h) (omega (arith, few)) in
        subst (λ (v : List ℕ). IsPrefix v ws) (sym e) (take-prefix m ws)

  -- ---- what a piece is answered with
  module _ (w : ℕ) (wide : latest ac b n ≤ w) (took : List (Two Received)) (q : Piece) (c : Carried (Near n) (took ++ q.symbols) ps) where
    -- up to the symbol that a piece stops at
    module _ (m : ℕ) (y : Two Received) where
      abbrev up_to : List (Two Received)
      up_to = took ++ (take m q.symbols ++ (y ∷ []))

      carried-to : (later : List (Two Received)) → drop m q.symbols ≡ y ∷ later → Carried (Near n) up_to ps
      carried-to later e =
          let i : took ++ q.symbols ≡ up_to ++ later =
          ap (λ (x : List (Two Received)). took ++ x) (sym (take-append-drop m q.symbols) ∙ ap (λ (x : List (Two Received)). take m q.symbols ++ x) e
          ∙ sym (append_assoc (take m q.symbols) (y ∷ []) later)) ∙ sym (append_assoc took (take m q.symbols ++ (y ∷ [])) later) in
          carried-front (Near n) up_to later ps (subst (λ (x : List (Two Received)). Carried (Near n) x ps) i c)

      backwards : reverse up_to ≡ y ∷ (reverse (take m q.symbols) ++ reverse took)
      backwards =
          reverse-append took (take m q.symbols ++ (y ∷ [])) ∙ ap (λ (x : List (Two Received)). x ++ reverse took) (reverse-append (take m q.symbols) (y ∷ []))

    symbol-fair : (ys : List (Two Received)) (y : Two Received) (room : ℕ) (g : Reason) → BothInRange y → pending_after (told_of ac w b took) (y ∷ ys) ≤ w →
        table.SymbolGives (told_of ac w b took) ys y room g → Fair g.number
    symbol-fair ys y room g i few (table.SymbolGives.five a) = absurd (omega (arith, no-fault y i))
    symbol-fair ys y room g i few (table.SymbolGives.six a d) = absurd (omega arith)
    symbol-fair ys y room g i few (table.SymbolGives.eight a d e) = inr (inl refl)
    symbol-fair ys y room g i few (table.SymbolGives.taken a d e) = inl refl

    pub fair : GoodStart (start_of b) → (room m v : ℕ) (g : Reason) → table.PieceGives (told_of ac w b took) q room m v g → Fair g.number
    fair i room m v g (table.PieceGives.ten x y j) = inr (inr refl)
    fair i room m v g (table.PieceGives.whole x y j) = inl refl
    fair i room m v g (table.PieceGives.stopped x y later d t g' j a) =
        let front = take m q.symbols in
        let to : Carried (Near n) (up_to m y) ps = carried-to m y later d in
        let few = few-pending ac sent ps s k n l (up_to m y) to b z i w in
        symbol-fair (reverse front ++ reverse took) y (room - v) g
        (every-right BothInRange front (y ∷ []) (every-right BothInRange took (front ++ (y ∷ [])) (carried-in ac sent ps s k n l (up_to m y) to))).0
        (omega (arith, subst (λ (e : List (Two Received)). pending_after (told_of ac w b took) e ≤ latest ac b n) (backwards m y) few, wide)) a

    only-room : (ws : List ℕ) (rx : Receiver) → Talk ac w b took ws rx → (out o : List ℕ) (r : Answer) → Hears rx q out r o → Fair (given_of r.why).number
    only-room ws rx h out o r p =
        let f = follows ac w b took ws rx h in
        fair f.fine.good_start (length out) r.taken r.written (given_of r.why)
        ((hears (told_of ac w b took) f.fine rx f.machine out r o q p (given_of r.why)).0 refl)

-- one theorem for every noise n and every window w that holds what can be pending then
pub guaranteed : (ac : Accord) (b : Start) → StartsAtZero b → (n w : ℕ) → n ≤ 127 → latest ac b n ≤ w → Guarantee ac b n w
guaranteed ac b z n w l wide =
    record {
      no_six = λ sent ps s k took ws rx h q c. only-room ac sent ps s k n l b z w wide took q c ws rx h;
      pending = λ sent ps s k v took ws rx h c. omega (arith, few ac sent ps s k n l b z v took ws rx h c, wide);
      no-late = λ sent ps s k v took ws rx h c. all_but ac sent ps s k n l b z v took ws rx h c w wide;
    }
