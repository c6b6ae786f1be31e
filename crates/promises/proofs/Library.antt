-- THE LIBRARY FOR C. What a C caller sees is a run of the two ends, so the demands hold of it: from the library's promises alone, on the
-- caller's own words.
--   talks, ended, sent     a run of the library's calls is a run of the ends
--   numbers                demand 1: number, place and counts of a piece are those of 01's table
--   exact, final, whole    demand 3
--   round_trip             demand 2, from the library's sender to the library's receiver
--   back, begins           through noise, where only the sent points are nearest; noisy-back, noisy-begins, at most 127 line units off
--   quarter-turn           a quarter turn does not matter
use mathlib.Core.Path.{◌≡◌, refl, sym, ap, subst, ◌∙◌}
use mathlib.Core.Bool.{Bool, true, false, cond}
use mathlib.Core.List.{List, [], ◌++◌, map, reverse, IsPrefix}
use Prim.Native.Nat.{ℕ, ◌*◌, ◌≤◌, ◌<◌}
use native.Mathlib.Omega.{arith}
use borrow.Author.Tests.{le-ltb, lt-ltb}
use lib.Dec.{eqb, ltb}
use lib.IntN.{ℤ}
use lib.ListN.{length, get_or, take, drop}
use Rattle.std.specs.Prelude.{Result, Ok, Err, ⊤}
use Rattle.wei.specs.Symbol.{Symbol}
use Rattle.points.specs.declared.Accord.{Accord}
use Rattle.trellis.specs.Code.{Path, symbols}
use Rattle.trellis.specs.Best.{Answer as IsAnswer, Longest}
use Rattle.trellis.specs.Measure.{free, Two}
use Rattle.trellis.specs.Words.{as_heard}
use Rattle.nearest.specs.declared.Received.{Received}
use Rattle.reasons.specs.Reason.{given_of}
use Rattle.receiver_meaning.specs.Told.{code_of, words_of}
use Rattle.receiver_meaning.specs.Piece.{Piece, symbols_of}
use Rattle.openings.specs.declared.Start.{Start}
use Rattle.openings.specs.declared.Start.TheVariants.{Free}
use Rattle.openings.specs.Given.{start_of}
use Rattle.openings.specs.Opening.{opening}
use Rattle.openings.proofs.Openings.{opening-opens}
use Rattle.receiver.specs.declared.Answer.{Answer}
use Rattle.receiver.specs.Doors.{Ran, hearing, finishing}
use Rattle.receiver.specs.Promise as receiver
use Rattle.receiver.proofs.Doors as doors
use Rattle.sender.specs.declared.Sender.{Sender}
use Rattle.sender.specs.declared.Why.{Why}
use Rattle.sender.specs.declared.Why.TheVariants.{BadWidth, BadWord, NoRoom, Closed}
use Rattle.sender.specs.Send as sender
use Rattle.sender.specs.SendList.{sending_list}
use Rattle.sender.specs.Promise as sends
use Rattle.sender.specs.Run as run
use Rattle.sender.proofs.Exactly as exactly
use Rattle.sender.proofs.Settled.{listed, list-given}
use Rattle.c_layout.specs.Layout.{sender_length, receiver_length}
use Rattle.c_states.specs.State.{sender_in, words_of_sender, receiver_in, words_of_receiver}
use Rattle.c_samples.specs.Counts.{told_of}
use Rattle.demfizagu.specs.Calls.{Call, call_of, sender_opening, send_call, send_list_call, receiver_opening, hear_call, finish_call}
use Rattle.demfizagu.specs.Promise as library
use Rattle.turn_meaning.specs.Alone.{Alone}
use Rattle.turn_meaning.specs.Turned.{turned_by}
use Rattle.turn_meaning.specs.Same.{SameWords}
use Rattle.promises.specs.Talk as ends
use Rattle.promises.specs.Table as table
use Rattle.promises.specs.Library.{taken, written, LibraryHears, opens, hears, refuses, short, short-finish, copied, LibraryEnded}
use Rattle.promises.specs.Library as calls
use Rattle.promises.proofs.Follows as follows
use Rattle.promises.proofs.Demand1 as demand1
use Rattle.promises.proofs.Demand2 as demand2
use Rattle.promises.proofs.Demand3 as demand3
use Rattle.promises.proofs.Noise as noise
use Rattle.promises.proofs.QuarterTurn as turn
use Rattle.promises.specs.Clean.{all_on_line, StartsAtZero}
use Rattle.promises.specs.Noise.{Near, OnlyNearest, Carried}

-- ---- what a call answers

-- the answer of the door behind it
abbrev pub answer : Ran → Answer
answer r = record { receiver = r.receiver; taken = r.taken; written = length r.words; why = r.why }

pub record Answered (r : Ran) (out : List ℕ) (n : ℕ) (state o told : List ℕ) : Type 0 where
  pub number : n ≡ (given_of r.why).number
  pub reads : receiver_in state ≡ r.receiver
  pub out-is : o ≡ r.words ++ drop (length r.words) out
  pub taken_is : taken told ≡ r.taken
  pub written_is : written told ≡ length r.words
  pub place_is : get_or told 2 0 ≡ (given_of r.why).place

-- a `told` of three places is written
answered : (c : Call) (changed : Bool) (r : Ran) (state out told : List ℕ) → c ≡ call_of changed r state out told → (n : ℕ) (state' o told' : List ℕ) →
    library.Answers c n state' o told' → Answered r out n state' o told'
unfolding told_of
answered c changed r state out told e n state' o told' a =
    record {
      number = a.number ∙ ap (λ (x : Call). x.number) e;
      reads = a.reads ∙ ap (λ (x : Call). x.receiver) e;
      out-is = a.out-is ∙ ap (λ (x : Call). x.out) e;
      taken_is = ap (λ (l : List ℕ). get_or l 0 0) (a.told_is ∙ ap (λ (x : Call). x.told) e);
      written_is = ap (λ (l : List ℕ). get_or l 1 0) (a.told_is ∙ ap (λ (x : Call). x.told) e);
      place_is = ap (λ (l : List ℕ). get_or l 2 0) (a.told_is ∙ ap (λ (x : Call). x.told) e);
    }

module _ (state out told : List ℕ) (long : 3 ≤ length told) (n : ℕ) (state' o told' : List ℕ) where
  pub heard-by : (piece : Piece) → library.Answers (hear_call state piece out told) n state' o told' → Answered (hearing (receiver_in state) piece (length out)) out n state' o told'
  unfolding hear_call
  heard-by piece a =
      let r = hearing (receiver_in state) piece (length out) in
      answered (hear_call state piece out told) (ltb 0 r.taken) r state out told (rw (le-ltb (length told) 3 long)) n state' o told' a

  pub ended_by : library.Answers (finish_call state out told) n state' o told' → Answered (finishing (receiver_in state) (length out)) out n state' o told'
  unfolding finish_call
  ended_by a =
      let r = finishing (receiver_in state) (length out) in
      answered (finish_call state out told) (eqb (given_of r.why).number 0) r state out told (rw (le-ltb (length told) 3 long)) n state' o told' a

-- so the door's promise holds of it
pub is-answer : (r : Ran) (out : List ℕ) (n : ℕ) (state o told : List ℕ) → Answered r out n state o told → receiver.Is r out (answer r) o
is-answer r out n state o told a = record { receiver = refl; taken = refl; written = refl; given = refl; output = a.out-is }

pub too_short : (state : List ℕ) (piece : Piece) (out told : List ℕ) → length told < 3 → (hear_call state piece out told).receiver ≡ receiver_in state
unfolding hear_call
too_short state piece out told few = rw (lt-ltb (length told) 3 few)

pub too-short-to-finish : (state out told : List ℕ) → length told < 3 → (finish_call state out told).receiver ≡ receiver_in state
unfolding finish_call
too-short-to-finish state out told few = rw (lt-ltb (length told) 3 few)

-- ---- runs

module _ (k : Accord) (w : ℕ) (b : Start) where
  opened-talk : (before state : List ℕ) (n : ℕ) → library.Opens receiver_in (receiver_opening before k w b) n state → n ≡ 0 → ends.Talk k w b [] [] (receiver_in state)
  unfolding receiver_opening
  opened-talk before state n p z = go (ltb (length before) receiver_length) p
    where
      go : (c : Bool) →
          library.Opens receiver_in
          (cond c (record { number = 8; state = before; end = receiver_in before })
          (record { number = (given_of (opening k w b).why).number; state = words_of_receiver (opening k w b).receiver ++ drop receiver_length before; end = (opening k w b).receiver })) n state →
          ends.Talk k w b [] [] (receiver_in state)
      go true q = absurd (omega (arith, q.number))
      go false q = subst (ends.Talk k w b [] []) (sym q.reads) (ends.opens (record { receiver = (opening k w b).receiver; why = (opening k w b).why }) (opening-opens k w b) (sym q.number ∙ z))

  pub talks : (took : List (Two Received)) (ws state : List ℕ) → LibraryHears k w b took ws state → ends.Talk k w b took ws (receiver_in state)
  talks took ws state (opens before s n p z) = opened-talk before s n p z
  talks took ws state (hears {took = l} {ws = vs} {state = s} h piece out told long n s' o told' a) =
      let d = heard-by s out told long n s' o told' piece a in
      let r = hearing (receiver_in s) piece (length out) in
      rw (d.taken_is, d.written_is, d.reads)
      (ends.hears (talks l vs s h) piece out o (answer r) (doors.hears (receiver_in s) piece out (answer r) o (is-answer r out n s' o told' d)))
  talks took ws state (refuses {took = l} {ws = vs} {state = s} h out told long n s' o told' a z) =
      let d = ended_by s out told long n s' o told' a in
      let r = finishing (receiver_in s) (length out) in
      rw (d.written_is, d.reads)
      (ends.refuses (talks l vs s h) out o (answer r) (doors.finishes (receiver_in s) out (answer r) o (is-answer r out n s' o told' d)) (λ e. z (d.number ∙ e)))
  talks took ws state (short {state = s} h piece out told few n s' o told' a) = subst (ends.Talk k w b took ws) (sym (a.reads ∙ too_short s piece out told few)) (talks took ws s h)
  talks took ws state (short-finish {state = s} h out told few n s' o told' a) = subst (ends.Talk k w b took ws) (sym (a.reads ∙ too-short-to-finish s out told few)) (talks took ws s h)
  talks took ws state (copied {state = s} h other e) = subst (ends.Talk k w b took ws) (sym e) (talks took ws s h)

  pub ended : (took : List (Two Received)) (ws : List ℕ) → LibraryEnded k w b took ws → ends.Ended k w b took ws
  ended took ws (calls.ends {ws = vs} {state = s} h out told long n s' o told' a z) =
      let d = ended_by s out told long n s' o told' a in
      let r = finishing (receiver_in s) (length out) in
      rw d.written_is
      (ends.ends (talks took vs s h) out o (answer r) (doors.finishes (receiver_in s) out (answer r) o (is-answer r out n s' o told' d)) (sym d.number ∙ z))

-- ---- the library's sender

-- the reason that a number stands for
abbrev pub why_of : ℕ → Result ⊤ Why
why_of n = cond (eqb n 0) (Ok tt) (cond (eqb n 4) (Err BadWord) (cond (eqb n 8) (Err NoRoom) (cond (eqb n 9) (Err Closed) (Err BadWidth))))

pub sent-by : (s : Sender) (word : ℕ) (out o : List ℤ) → o ≡ (sender.sending s word out).output →
    sends.Sends s word out (record { sender = (sender.sending s word out).sender; why = why_of (sender.sending s word out).number }) o
sent-by s word out o e =
    record {
      number = named (sender.sending s word out) (exactly.outcome s word out);
      sender = refl;
      output = e;
      again = λ z. sender.End.called z word out;
    }
  where
    named : (g : sender.Given) → exactly.Outcome s word out g → sender.number_of (why_of g.number) ≡ g.number
    named g (exactly.closed a) = refl
    named g (exactly.bad-word a w) = refl
    named g (exactly.no_room a w l) = refl
    named g (exactly.taken a w l) = refl

-- a list whose `told` has three places
module _ (state words : List ℕ) (out : List ℤ) (told : List ℕ) (n : ℕ) (state' : List ℕ) (o : List ℤ) (told' : List ℕ)
    (a : library.SendsList (send_list_call state words out told) n state' o told') where
  pub record Listed : Type 0 where
    pub reads : sender_in state' ≡ (sending_list (sender_in state) words out).sender
    pub out-is : o ≡ (sending_list (sender_in state) words out).output
    pub taken_is : taken told' ≡ (sending_list (sender_in state) words out).sent
    pub written_is : written told' ≡ 4 * (sending_list (sender_in state) words out).sent

  pub list-told : 3 ≤ length told → Listed
  unfolding send_list_call told_of
  list-told long =
      let l = le-ltb (length told) 3 long in
      let t = rw l at a.told_is in
      record { reads = a.reads ∙ rw l; out-is = a.out-is ∙ rw l; taken_is = ap (λ (v : List ℕ). get_or v 0 0) t; written_is = ap (λ (v : List ℕ). get_or v 1 0) t }

  pub list-untold : length told < 3 → sender_in state' ≡ sender_in state
  unfolding send_list_call
  list-untold few = a.reads ∙ rw (lt-ltb (length told) 3 few)

opened-by : (k : Accord) → (sender.opening k).number ≡ 0 → sends.Opens k (record { sender = (sender.opening k).sender; why = Ok tt })
opened-by k z = record { number = sym z; sender = refl; end = sender.End.opened k }

module _ (k : Accord) where
  opened-sends : (before state : List ℕ) (n : ℕ) → library.Opens sender_in (sender_opening before k) n state → n ≡ 0 → run.Talk k [] [] (sender_in state)
  unfolding sender_opening
  opened-sends before state n p z = go (ltb (length before) sender_length) p
    where
      go : (c : Bool) →
          library.Opens sender_in
          (cond c (record { number = 8; state = before; end = sender_in before })
          (record { number = (sender.opening k).number; state = words_of_sender (sender.opening k).sender ++ drop sender_length before; end = (sender.opening k).sender })) n state →
          run.Talk k [] [] (sender_in state)
      go true q = absurd (omega (arith, q.number))
      go false q = subst (run.Talk k [] []) (sym q.reads) (run.opens (record { sender = (sender.opening k).sender; why = Ok tt }) (opened-by k (sym q.number ∙ z)) refl)

  pub sent : (ws : List ℕ) (ps : List ℤ) (state : List ℕ) → calls.LibrarySends k ws ps state → run.Talk k ws ps (sender_in state)
  unfolding send_call
  sent ws ps state (calls.LibrarySends.opens before s n p z) = opened-sends before s n p z
  sent ws ps state (calls.LibrarySends.takes {ws = vs} {ps = qs} {state = s} h word n out o s' a z) =
      let g = sender.sending (sender_in s) word out in
      rw a.reads
      (run.takes (sent vs qs s h) word out o (record { sender = g.sender; why = why_of g.number }) (sent-by (sender_in s) word out o a.out-is)
      ((sent-by (sender_in s) word out o a.out-is).number ∙ sym a.number ∙ z))
  sent ws ps state (calls.LibrarySends.refuses {state = s} h word n out o s' a z) =
      let g = sender.sending (sender_in s) word out in
      rw a.reads
      (run.refuses (sent ws ps s h) word out o (record { sender = g.sender; why = why_of g.number }) (sent-by (sender_in s) word out o a.out-is)
      (λ e. z (a.number ∙ sym (sent-by (sender_in s) word out o a.out-is).number ∙ e)))
  sent ws ps state (calls.LibrarySends.lists {ws = vs} {ps = qs} {state = s} h words out told long m s' o told' a) =
      let d = list-told s words out told m s' o told' a long in
      rw (d.taken_is, d.written_is, d.out-is, d.reads)
      (run.lists (sent vs qs s h) words out (sending_list (sender_in s) words out).output (listed (sender_in s) words out) (list-given (sender_in s) words out))
  sent ws ps state (calls.LibrarySends.short {state = s} h words out told few m s' o told' a) =
      subst (run.Talk k ws ps) (sym (list-untold s words out told m s' o told' a few)) (sent ws ps s h)
  sent ws ps state (calls.LibrarySends.copied {state = s} h other e) = subst (run.Talk k ws ps) (sym e) (sent ws ps s h)

-- ---- the demands

module _ (k : Accord) (w : ℕ) (b : Start) (took : List (Two Received)) (ws : List ℕ) where
  pub exact : (state : List ℕ) → LibraryHears k w b took ws state → (l : List Symbol) → Longest (code_of k (start_of b)) (reverse took) l → ws ≡ words_of k (start_of b) l
  exact state h = demand3.exact k w b took ws (receiver_in state) (talks k w b took ws state h)

  pub final : (state : List ℕ) → LibraryHears k w b took ws state → (zs : List (Two Received)) (p : Path Symbol) →
      IsAnswer (code_of k (start_of b)) (reverse (took ++ zs)) p → IsPrefix ws (words_of k (start_of b) (symbols p))
  final state h = demand3.final k w b took ws (receiver_in state) (talks k w b took ws state h)

  pub whole : LibraryEnded k w b took ws → (p : Path Symbol) → IsAnswer (code_of k (start_of b)) (reverse took) p → ws ≡ words_of k (start_of b) (symbols p)
  whole e = demand3.whole k w b took ws (ended k w b took ws e)

  -- the number, the place in told[2], and the counts of a piece after such a run
  pub numbers : (state : List ℕ) → LibraryHears k w b took ws state → (piece : Piece) (out told : List ℕ) → 3 ≤ length told → (n : ℕ) (state' o told' : List ℕ) →
      library.Answers (hear_call state piece out told) n state' o told' →
      table.PieceGives (follows.told_of k w b took) piece (length out) (taken told') (written told') (record { number = n; place = get_or told' 2 0 })
  numbers state h piece out told long n state' o told' a =
      let d = heard-by state out told long n state' o told' piece a in
      let r = hearing (receiver_in state) piece (length out) in
      let f = follows.follows k w b took ws (receiver_in state) (talks k w b took ws state h) in
      rw (d.number, d.place_is, d.taken_is, d.written_is)
      ((demand1.hears (follows.told_of k w b took) f.fine (receiver_in state) f.machine out (answer r) o piece
      (doors.hears (receiver_in state) piece out (answer r) o (is-answer r out n state' o told' d)) (given_of r.why)).0 refl)

pub round_trip : (k : Accord) (w : ℕ) (b : Start) → StartsAtZero b → (words : List ℕ) (ps : List ℤ) (state ws : List ℕ) → calls.LibrarySends k words ps state →
    LibraryEnded k w b (symbols_of (all_on_line ps)) ws → ws ≡ as_heard (start_of b) words
round_trip k w b z words ps state ws s e = demand2.round_trip k w b z words ps (sender_in state) (sent k words ps state s) ws (ended k w b (symbols_of (all_on_line ps)) ws e)

module _ (k : Accord) (w : ℕ) (b : Start) (z : StartsAtZero b) (words : List ℕ) (ps : List ℤ) (state : List ℕ) (s : calls.LibrarySends k words ps state) (took : List (Two Received)) (ws : List ℕ) where
  pub back : Carried (OnlyNearest k) took ps → LibraryEnded k w b took ws → ws ≡ take (length took) (as_heard (start_of b) words)
  back c e = noise.back k w b z words ps (sender_in state) (sent k words ps state s) took c ws (ended k w b took ws e)

  pub begins : Carried (OnlyNearest k) took ps → (rx : List ℕ) → LibraryHears k w b took ws rx → IsPrefix ws (as_heard (start_of b) words)
  begins c rx h = noise.begins k w b z words ps (sender_in state) (sent k words ps state s) took c ws (receiver_in rx) (talks k w b took ws rx h)

  pub noisy-back : Carried (Near 127) took ps → LibraryEnded k w b took ws → ws ≡ take (length took) (as_heard (start_of b) words)
  noisy-back c e = noise.noisy-back k w b z words ps (sender_in state) (sent k words ps state s) took c ws (ended k w b took ws e)

  pub noisy-begins : Carried (Near 127) took ps → (rx : List ℕ) → LibraryHears k w b took ws rx → IsPrefix ws (as_heard (start_of b) words)
  noisy-begins c rx h = noise.noisy-begins k w b z words ps (sender_in state) (sent k words ps state s) took c ws (receiver_in rx) (talks k w b took ws rx h)

pub quarter-turn : (ac : Accord) (v w k : ℕ) (took : List (Two Received)) (ws vs : List ℕ) → Alone (code_of ac free) (reverse took) →
    LibraryEnded ac v Free took ws → LibraryEnded ac w Free (map (turned_by k) took) vs → SameWords ac.map vs ws
quarter-turn ac v w k took ws vs A d e = turn.quarter-turn ac v w k took ws vs A (ended ac v Free took ws d) (ended ac w Free (map (turned_by k) took) vs e)
