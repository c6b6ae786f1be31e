-- The code's verdict is the one that is meant: what the judge holds after each record is what the meaning has seen.
--   Shows s m       the state s holds what m has seen
--   shows-took      and goes on to hold it, record by record
--   verdict-meant   THE THEOREM: however long the capture is, and whatever its bytes
--   lumps-meant     02, Wish 7: however the bytes are cut
--   never-eight, finish-never-eight   no record is ever refused with 8: the room that a replay has is enough
use mathlib.Core.Path.{◌≡◌, refl, sym, ap, subst, ◌∙◌}
use mathlib.Core.Bool.{Bool, true, false, cond}
use mathlib.Core.List.{List, [], ◌∷◌, ◌++◌}
use Prim.Native.Nat.{ℕ, ◌+◌, ◌≤◌}
use native.Mathlib.Omega.{arith}
use borrow.Author.Tests.{eqb-true}
use lib.Dec.{eqb, ltb}
use lib.ListN.{length, take, drop, replicate, length-append, length-drop}
use lib.Seq.{take_at, drop-drop}
use Rattle.std.specs.Prelude.{Result, ⊤}
use Rattle.machine.specs.declared.Receiver.{Receiver}
use Rattle.machine.specs.Machine.{shut, machine_of}
use Rattle.reasons.specs.declared.Why.{Why}
use Rattle.reasons.specs.Reason.{Reason, reason, given_of}
use Rattle.calls.specs.Calls.{rest}
use Rattle.receiver_meaning.specs.Told.{Told, Fine, FineList, speaker_of, pending_after}
use Rattle.receiver_meaning.specs.Piece.{Piece, marked_piece}
use Rattle.receiver_meaning.specs.Owed.{piece_owed, FinishOwed, finish_owed}
use Rattle.receiver_meaning.proofs.Cases.{finish-cases}
use Rattle.machine.proofs.Owed.{rest-most}
use Rattle.openings.specs.Given.{start_at}
use Rattle.openings.specs.Opening.{Opening, opening, opening_owed, Opens}
use Rattle.openings.proofs.Openings.{opening-opens}
use Rattle.receiver.specs.Doors.{Ran, hearing, finishing}
use Rattle.receiver.proofs.Doors.{OwedBy, hears as kept-hear, hearing-owes, EndedBy, finishing-owes}
use Rattle.receiver.proofs.Left.{shut-hears, shut-finishes}
use Rattle.receiver.proofs.Laws.{hears-fit, finish-most, never-short}
use Rattle.records.specs.declared.Role.{Role}
use Rattle.records.specs.declared.Role.TheVariants.{Open, Symbol, Word, Finish, Unknown}
use Rattle.records.specs.declared.Stage.{Stage}
use Rattle.records.specs.declared.Stage.TheVariants.{Fresh, Part, Whole, Bad}
use Rattle.records.specs.declared.Frame.{Frame}
use Rattle.records.specs.Kinds.{kind_of}
use Rattle.records.specs.Values.{Entry, accord_of, window_of, start_of, mark_in, coordinates_of, word_of}
use Rattle.records.specs.Reading.{Ending, clean, malformed, reading_of}
use Rattle.records.specs.Frames.{capped, fresh, following, ending_of, ending_at, capped_ending}
use Rattle.records.proofs.Counts.{capped-more}
use Rattle.records.proofs.Steps.{following-reads}
use Rattle.replay_judge.specs.declared.Verdict.{Verdict}
use Rattle.replay_judge.specs.declared.Verdict.TheVariants.{Agree, Differs, Extra, Missing, Refused, Malformed}
use Rattle.replay_judge.specs.Judging as code
use Rattle.replay_judge.specs.Judging.{State, left, left_of, took}
use Rattle.replay.specs.declared.Replay.{Replay}
use Rattle.replay.specs.Meaning.{Line, closed, told, agreed, Seen, nothing_seen, fault, went, answered, room, opened, opens, hears, ends}
use Rattle.replay.specs.Meaning.{unless_due, says, by_role, upon, taking, takings, at_end, closing_at, closing, verdict_of}
use Rattle.replay.specs.Course.{Course, is_whole, feedings, ended, unless_left, replay_of, fresh_replay, capped_verdict}
use Rattle.replay.proofs.Feeds.{tooks, feedings-follow, feedings-append}

-- ---- what a state shows

abbrev pub receiver_of : Line → Receiver
receiver_of closed = shut
receiver_of (told t) = machine_of t

abbrev pub FineLine : Line → Type 0
FineLine closed = Unit {0}
FineLine (told t) = Fine t

pub record Shows (s : State) (m : Seen) : Type 0 where
  pub receiver : s.receiver ≡ receiver_of m.line
  pub fine : FineLine m.line
  pub due : left_of s ≡ m.due
  pub long : length s.due ≡ 65
  pub records : s.records ≡ capped m.number
  pub verdict : s.verdict ≡ capped_verdict m.verdict

nothing_left : (l : List ℕ) → left 0 0 l ≡ []
unfolding left
nothing_left l = refl

pub fresh-shows : Shows (replay_of fresh_replay).state nothing_seen
unfolding left capped
fresh-shows = record { receiver = refl; fine = tt; due = refl; long = refl; records = refl; verdict = refl }

-- a piece writes no more than its room
hearing-fits : (rx : Receiver) (p : Piece) (out : List ℕ) → length (hearing rx p (length out)).words ≤ length out
hearing-fits rx p out =
    let r = hearing rx p (length out) in
    let o = r.words ++ drop (length r.words) out in
    hears-fit rx p out (record { receiver = r.receiver; taken = r.taken; written = length r.words; why = r.why }) o
    (kept-hear rx p out _ o (record { receiver = refl; taken = refl; written = refl; given = refl; output = refl }))

-- a finish that is done closes
closes-is : (t : Told) (most : ℕ) (rx : Receiver) → (finish_owed t most).reason.number ≡ 0 → cond (finish_owed t most).closes shut rx ≡ shut
unfolding finish_owed
closes-is t most rx = go (ltb most (length (rest (speaker_of t) t.heard)))
  where
    given : Bool → FinishOwed
    given b = cond b (record { reason = reason 8; words = []; closes = false }) (record { reason = reason 0; words = rest (speaker_of t) t.heard; closes = true })

    go : (b : Bool) → (given b).reason.number ≡ 0 → cond (given b).closes shut rx ≡ shut
    go true k = absurd (eight k)
      where
        eight : ◌≡◌ {A = ℕ} 8 0 → ⊥
        eight k = omega arith
    go false k = refl

module _ (s : State) (m : Seen) (p : Shows s m) where
  counted : capped (s.records + 1) ≡ capped (m.number + 1)
  counted = ap (λ (n : ℕ). capped (n + 1)) p.records ∙ capped-more m.number 1

  shows-fault : (v w : Verdict) → v ≡ capped_verdict w → Shows (code.faulted s v) (fault m w)
  shows-fault v w e = record { receiver = p.receiver; fine = p.fine; due = p.due; long = p.long; records = p.records; verdict = e }

  refused-is : (w : Result ⊤ Why) (n : ℕ) → (given_of w).number ≡ n → Shows (code.refused_by s w) (fault m (Refused m.number n))
  refused-is w n e = shows-fault _ _ (rw (p.records, e))

  -- words written into the place of the words due are due
  left-words : (ws due : List ℕ) → left 0 (length ws) (ws ++ drop (length ws) due) ≡ ws
  unfolding left
  left-words ws due = take_at ws (drop (length ws) due) (length ws) refl

  -- the code's answer, and the one that is meant
  abbrev gone : Ran → State
  gone r = code.went s r.receiver (r.words ++ drop (length r.words) s.due) (length r.words)

  either : (r : Ran) (n : ℕ) (l : Line) (ws : List ℕ) → (given_of r.why).number ≡ n
      → (n ≡ 0 → (r.receiver ≡ receiver_of l) × FineLine l × (r.words ≡ ws) × (length ws ≤ 65)) → Shows (code.answered s r) (answered m n l ws)
  unfolding code.answered
  either r n l ws e f =
      subst (λ (k : ℕ). Shows (cond (eqb k 0) (gone r) (code.refused_by s r.why)) (answered m n l ws)) (sym e) (go (eqb n 0) refl)
    where
      go : (b : Bool) → eqb n 0 ≡ b → Shows (cond b (gone r) (code.refused_by s r.why)) (cond b (went m l ws) (fault m (Refused m.number n)))
      go true k =
          let g = f (eqb-true n 0 k) in
          let z : length r.words ≤ 65 = rw g.2 g.3 in
          record {
            receiver = g.0;
            fine = g.1;
            due = left-words r.words s.due ∙ g.2;
            long = length-append r.words (drop (length r.words) s.due) ∙ omega (arith, length-drop (length r.words) s.due, p.long);
            records = counted;
            verdict = p.verdict;
          }
      go false k = refused-is r.why n e

  -- ---- an open

  shows-open : (k : ℕ) (b : List ℕ) → Shows (code.opened s (accord_of k b) (window_of b) (start_of b)) (opens m k b)
  unfolding code.opened
  shows-open k b =
      subst (λ (r : ℕ). Shows (cond (eqb r 0) (code.went s o.receiver s.due 0) (code.refused_by s o.why)) (opens m k b)) (sym g.owed)
      (go (eqb n 0) refl)
    where
      o : Opening
      o = opening (accord_of k b) (window_of b) (start_at (start_of b))

      n : ℕ
      n = opening_owed (accord_of k b) (window_of b) (start_at (start_of b))

      g : Opens (accord_of k b) (window_of b) (start_at (start_of b)) (record { receiver = o.receiver; why = o.why })
      g = opening-opens (accord_of k b) (window_of b) (start_at (start_of b))

      go : (t : Bool) → eqb n 0 ≡ t → Shows (cond t (code.went s o.receiver s.due 0) (code.refused_by s o.why))
          (cond t (went m (told (opened k b)) []) (fault m (Refused m.number n)))
      go true z =
          let h = g.fresh (g.owed ∙ eqb-true n 0 z) in
          record { receiver = h.1; fine = h.0; due = nothing_left s.due; long = p.long; records = counted; verdict = p.verdict }
      go false z = refused-is o.why n g.owed

  -- ---- a symbol and a finish

  abbrev heard_as : Told → Piece → Seen
  heard_as t q = let d = piece_owed t q 65 in answered m d.reason.number (told d.told) d.words

  -- the piece that a symbol's record is
  abbrev piece_in : ℕ → List ℕ → Piece
  piece_in k b = marked_piece (mark_in k b ∷ []) (coordinates_of k b)

  answers-symbol : (l : Line) (q : Piece) → s.receiver ≡ receiver_of l → FineLine l → (k : ℕ) (b : List ℕ) → q ≡ piece_in k b
      → Shows (code.answered s (hearing s.receiver q (length s.due))) (hears m l k b)
  answers-symbol closed q e f k b z =
      let g : hearing s.receiver q (length s.due) ≡ _ = ap (λ (rx : Receiver). hearing rx q (length s.due)) e ∙ shut-hears q (length s.due) in
      subst (λ (r : Ran). Shows (code.answered s r) (answered m 9 closed [])) (sym g) (either _ 9 closed [] refl (λ k. absurd (nine k)))
    where
      nine : ◌≡◌ {A = ℕ} 9 0 → ⊥
      nine k = omega arith
  answers-symbol (told t) q e f k b z =
      let w : s.receiver ≡ machine_of t = e in
      let d : OwedBy (hearing (machine_of t) q 65) (piece_owed t q 65) = hearing-owes t f q 65 in
      let g : hearing s.receiver q (length s.due) ≡ hearing (machine_of t) q 65 = rw (e, p.long) in
      let few : length (hearing (machine_of t) q 65).words ≤ 65 = hearing-fits (machine_of t) q (replicate 65 0) in
      subst (λ (x : Piece). Shows (code.answered s (hearing s.receiver q (length s.due))) (heard_as t x)) z
      (subst (λ (r : Ran). Shows (code.answered s r) (heard_as t q)) (sym g)
      (either _ _ (told (piece_owed t q 65).told) _ (ap (λ (r : Reason). r.number) d.given) (λ k. (d.receiver, d.fine, d.words, rw (sym d.words) few))))

  answers-finish : (l : Line) → s.receiver ≡ receiver_of l → FineLine l → Shows (code.answered s (finishing s.receiver (length s.due))) (ends m l)
  answers-finish closed e f =
      let g : finishing s.receiver (length s.due) ≡ _ = ap (λ (rx : Receiver). finishing rx (length s.due)) e ∙ shut-finishes (length s.due) in
      subst (λ (r : Ran). Shows (code.answered s r) (answered m 9 closed [])) (sym g) (either _ 9 closed [] refl (λ k. absurd (nine k)))
    where
      nine : ◌≡◌ {A = ℕ} 9 0 → ⊥
      nine k = omega arith
  answers-finish (told t) e f =
      let d : EndedBy (finishing (machine_of t) 65) (machine_of t) (finish_owed t 65) = finishing-owes t f 65 in
      let g : finishing s.receiver (length s.due) ≡ finishing (machine_of t) 65 = rw (e, p.long) in
      subst (λ (r : Ran). Shows (code.answered s r) (ends m (told t))) (sym g)
      (either _ _ closed _ (ap (λ (r : Reason). r.number) d.given) (λ k. (d.receiver ∙ closes-is t 65 (machine_of t) k, tt, d.words, omega (arith, finish-most t f 65))))

  unless-due : (l : List ℕ) (n : State) (o : Seen) → Shows n o → Shows (code.unless_due s l n) (unless_due m l o)
  unfolding code.unless_due
  unless-due [] n o h = h
  unless-due (x ∷ l) n o h = shows-fault _ _ (rw p.records)

  unless-left : (n : State) (o : Seen) → Shows n o → Shows (code.unless_due s (left_of s) n) (unless_due m m.due o)
  unless-left n o h = subst (λ (l : List ℕ). Shows (code.unless_due s l n) (unless_due m m.due o)) (sym p.due) (unless-due m.due n o h)

  -- ---- a word

  says-word : (n g : ℕ) (l : List ℕ) → left_of s ≡ l → Shows (code.worded s (capped n) g l) (says m n g l)
  unfolding left
  says-word n g [] e = shows-fault _ _ (rw p.records)
  says-word n g (h ∷ hs) e = go (eqb g h)
    where
      shorter : left (s.shown + 1) s.given s.due ≡ hs
      shorter = sym (drop-drop 1 s.shown (take s.given s.due)) ∙ ap (λ (l : List ℕ). drop 1 l) e

      go : (b : Bool) → Shows (cond b (code.agreed_more s (capped n)) (code.faulted s (Differs s.records g h)))
          (cond b (record { line = m.line; due = hs; number = m.number + 1; verdict = Agree (n + 1) }) (fault m (Differs m.number g h)))
      go true = record { receiver = p.receiver; fine = p.fine; due = shorter; long = p.long; records = counted; verdict = ap Agree (capped-more n 1) }
      go false = shows-fault _ _ (rw p.records)

  -- ---- a record

  shows-role : (r : Role) (n k : ℕ) (b : List ℕ) → Shows (code.by_role r s (capped n) k b) (by_role r m n k b)
  unfolding code.heard code.finished
  shows-role Open n k b = shows-open k b
  shows-role Symbol n k b = unless-left _ _ (answers-symbol m.line (piece_in k b) p.receiver p.fine k b refl)
  shows-role Word n k b = subst (λ (l : List ℕ). Shows (code.worded s (capped n) (word_of b) l) (says m n (word_of b) m.due)) (sym p.due) (says-word n (word_of b) m.due p.due)
  shows-role Finish n k b = unless-left _ _ (answers-finish m.line p.receiver p.fine)
  shows-role Unknown n k b = p

  shows-upon : (v : Verdict) (r : Entry) → m.verdict ≡ v → Shows (code.upon (capped_verdict v) s r) (upon v m r)
  shows-upon (Agree n) r e = shows-role (kind_of r.kind).role n r.kind r.body
  shows-upon (Differs n g h) r e = p
  shows-upon (Extra n g) r e = p
  shows-upon (Missing n h) r e = p
  shows-upon (Refused n w) r e = p
  shows-upon (Malformed q) r e = p

pub shows-took : (s : State) (m : Seen) (r : Entry) → Shows s m → Shows (took s r) (taking m r)
unfolding took taking
shows-took s m r p = subst (λ (v : Verdict). Shows (code.upon v s r) (upon m.verdict m r)) (sym p.verdict) (shows-upon s m p m.verdict r refl)

pub shows-tooks : (s : State) (m : Seen) (rs : List Entry) → Shows s m → Shows (tooks s rs) (takings m rs)
unfolding tooks takings
shows-tooks s m [] p = p
shows-tooks s m (r ∷ rs) p = shows-tooks (took s r) (taking m r) rs (shows-took s m r p)

-- ---- the end

broken : (p : ℕ) → clean ≡ malformed p → ⊥
broken p e = let z : ◌≡◌ {A = ℕ} 0 1 = cc in omega arith

whole-clean : (t : Stage) (at : ℕ) → ending_at t at ≡ clean → is_whole t ≡ true
whole-clean Fresh at e = absurd (broken at (sym e))
whole-clean Part at e = absurd (broken at (sym e))
whole-clean Whole at e = refl
whole-clean Bad at e = absurd (broken at (sym e))

not-whole : (t : Stage) (at p : ℕ) → ending_at t at ≡ malformed p → (is_whole t ≡ false) × (at ≡ p)
not-whole Fresh at p e = (refl, cc)
not-whole Part at p e = (refl, cc)
not-whole Whole at p e = absurd (broken p e)
not-whole Bad at p e = (refl, cc)

-- the verdict by frame and state, as `verdict` and `end` give it
abbrev pub ended_by : Frame → Verdict → ℕ → List ℕ → Verdict
ended_by f v n l = cond (agreed v) (cond (is_whole f.stage) (unless_left v n l) (Malformed f.at)) v

abbrev pub ended_at : Frame → State → Verdict
ended_at f s = ended_by f s.verdict s.records (left_of s)

module _ (f : Frame) (s : State) (m : Seen) (p : Shows s m) where
  at-end : (n : ℕ) (l : List ℕ) → unless_left (Agree (capped n)) s.records l ≡ capped_verdict (at_end m (Agree n) l)
  at-end n [] = refl
  at-end n (h ∷ hs) = rw p.records

  ends-agree : (n : ℕ) → m.verdict ≡ Agree n → (e : Ending) → ending_of f ≡ capped_ending e
      → cond (is_whole f.stage) (unless_left (Agree (capped n)) s.records m.due) (Malformed f.at) ≡ capped_verdict (closing_at (Agree n) m e)
  ends-agree n v clean k = rw (whole-clean f.stage f.at k) (at-end n m.due)
  ends-agree n v (malformed q) k = let z = not-whole f.stage f.at (capped q) k in rw (z.0, z.1)

  ends_at : (v : Verdict) → m.verdict ≡ v → (e : Ending) → ending_of f ≡ capped_ending e
      → ended_by f (capped_verdict v) s.records m.due ≡ capped_verdict (closing_at v m e)
  ends_at (Agree n) z e k = ends-agree n z e k
  ends_at (Differs n g h) z e k = refl
  ends_at (Extra n g) z e k = refl
  ends_at (Missing n h) z e k = refl
  ends_at (Refused n w) z e k = refl
  ends_at (Malformed q) z e k = refl

  pub ends-meant : (e : Ending) → ending_of f ≡ capped_ending e → ended_at f s ≡ capped_verdict (closing m e)
  ends-meant e k =
      let a : ended_at f s ≡ ended_by f (capped_verdict m.verdict) s.records m.due =
      ap (λ (v : Verdict). ended_by f v s.records (left_of s)) p.verdict
      ∙ ap (λ (l : List ℕ). ended_by f (capped_verdict m.verdict) s.records l) p.due in
      a ∙ ends_at m.verdict refl e k

-- THE THEOREM: the bytes, one after another, end in the verdict that is meant
pub verdict-meant : (bs : List ℕ) → let c = feedings (replay_of fresh_replay) bs in ended_at c.frame c.state ≡ capped_verdict (verdict_of bs)
unfolding verdict_of
verdict-meant bs =
    let q = following-reads bs in
    let s₀ = (replay_of fresh_replay).state in
    let h : Shows (tooks s₀ (following fresh bs).entries) (takings nothing_seen (reading_of bs).records) =
    subst (λ (rs : List Entry). Shows (tooks s₀ (following fresh bs).entries) (takings nothing_seen rs)) q.entries (shows-tooks s₀ nothing_seen (following fresh bs).entries fresh-shows) in
    ap (λ (c : Course). ended_at c.frame c.state) (feedings-follow fresh s₀ bs) ∙ ends-meant (following fresh bs).frame _ _ h (reading_of bs).ending q.ending

-- ---- over the code's contracts

-- lumps fed one after the other, empty ones too
pub data Fed : Replay → List (List ℕ) → Replay → Type 0 where
  none : {r : Replay} → Fed r [] r
  more : {r n m : Replay} {x : List ℕ} {xs : List (List ℕ)} → replay_of n ≡ feedings (replay_of r) x → Fed n xs m → Fed r (x ∷ xs) m

unfoldable pub joined : List (List ℕ) → List ℕ
joined [] = []
joined (x ∷ xs) = x ++ joined xs

fed-is : {r m : Replay} {xs : List (List ℕ)} → Fed r xs m → replay_of m ≡ feedings (replay_of r) (joined xs)
unfolding joined feedings
fed-is none = refl
fed-is {r} {m} (more {n = n} {x = x} {xs = xs} e f) = fed-is f ∙ ap (λ (c : Course). feedings c (joined xs)) e ∙ sym (feedings-append (replay_of r) x (joined xs))

ended_at_lem : (r : Replay) → ended r.frame r.judge r.due ≡ ended_at (replay_of r).frame (replay_of r).state
unfolding ended
ended_at_lem r = refl

-- however the bytes are cut, the verdict is the one that is meant of the joined bytes
pub lumps-meant : (r : Replay) (xs : List (List ℕ)) (v : Verdict) → Fed fresh_replay xs r → v ≡ ended r.frame r.judge r.due → v ≡ capped_verdict (verdict_of (joined xs))
lumps-meant r xs v f e = e ∙ ended_at_lem r ∙ ap (λ (c : Course). ended_at c.frame c.state) (fed-is f) ∙ verdict-meant (joined xs)

-- ---- settled

back : Course → Replay
back c =
    let s = c.state in
    record {
      frame = c.frame;
      judge = record { live = s.receiver.live; core = s.receiver.core; given = s.given; shown = s.shown; records = s.records; verdict = s.verdict };
      sums = s.receiver.sums;
      registers = s.receiver.registers;
      picks = s.receiver.picks;
      due = s.due;
    }

pub feed-settled : (r a b : Replay) (bs : List ℕ) → replay_of a ≡ feedings (replay_of r) bs → replay_of b ≡ feedings (replay_of r) bs → a ≡ b
unfolding back
feed-settled r a b bs e f = ap back (e ∙ sym f)

-- ---- room enough

pending-few : (t : Told) → Fine t → pending_after t t.heard ≤ 64
pending-few t f = go t.heard f.each
  where
    go : (ys : _) → FineList t ys → pending_after t ys ≤ 64
    go [] h = omega arith
    go (y ∷ ys) h = omega (arith, h.1, f.small-window)

-- no symbol's record is refused with 8
pub never-eight : (t : Told) → Fine t → (k : ℕ) (b : List ℕ) → (piece_owed t (marked_piece (mark_in k b ∷ []) (coordinates_of k b)) room).reason.number ≡ 8 → ⊥
never-eight t f k b = never-short t f (marked_piece (mark_in k b ∷ []) (coordinates_of k b)) 65 (omega (arith, pending-few t f))

-- nor is a finish's
pub finish-never-eight : (t : Told) → Fine t → (finish_owed t room).reason.number ≡ 8 → ⊥
finish-never-eight t f = finish-cases t room (λ d. d.reason.number ≡ 8 → ⊥) (λ short _. omega (arith, rest-most t f)) (λ _ e. omega arith)
