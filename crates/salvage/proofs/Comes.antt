-- The records of a capture, one after another, come out as the salvage says: what is written, and the counts.
--   shown-none       after a record that the receiver was run on no word has an old one against it
--   Holds s l d      the state s holds the line l and the words d that have no old one against them, and nothing is refused yet
--   off-minds        after a refusal nothing is looked at
--   Comes ..         what is written and counted, of some records
--   comes            so it is of all records of a reading
use mathlib.Core.Path.{◌≡◌, refl, sym, ap, ap₂, subst, ◌∙◌}
use mathlib.Core.Bool.{Bool, true, false, cond}
use mathlib.Core.List.{List, [], ◌∷◌, ◌++◌}
use Prim.Native.Nat.{ℕ, ◌+◌}
use native.Mathlib.Omega.{arith}
use lib.Dec.{eqb}
use lib.ListN.{length, take, drop}
use lib.Seq.{drop-drop}
use Rattle.reasons.specs.Reason.{is_done}
use Rattle.receiver_meaning.specs.Piece.{marked_piece}
use Rattle.openings.specs.Given.{start_at}
use Rattle.openings.specs.Opening.{Opening, opening}
use Rattle.receiver.specs.Doors.{Ran, hearing, finishing}
use Rattle.records.specs.declared.Role.{Role}
use Rattle.records.specs.declared.Role.TheVariants.{Open, Symbol, Word, Finish, Unknown}
use Rattle.records.specs.declared.Phase.{Phase}
use Rattle.records.specs.Kinds.{kind_of, after_role}
use Rattle.records.specs.Values.{Entry, accord_of, window_of, start_of, mark_in, coordinates_of, word_of, bytes_of}
use Rattle.records.specs.Frames.{capped}
use Rattle.records.proofs.Counts.{capped-more}
use Rattle.record_write.specs.Front.{word_entries}
use Rattle.replay_judge.specs.declared.Verdict.{Verdict}
use Rattle.replay_judge.specs.declared.Verdict.TheVariants.{Agree, Differs, Extra, Missing, Refused, Malformed}
use Rattle.replay_judge.specs.Judging as code
use Rattle.replay_judge.specs.Judging.{State, left, left_of, took}
use Rattle.replay.specs.Meaning.{Line, agreed}
use Rattle.replay.specs.Course.{capped_verdict}
use Rattle.replay.proofs.Meant.{receiver_of, FineLine, Shows, shows-took}
use Rattle.replay.proofs.Forms.{Formed}
use Rattle.salvage_meaning.specs.Salvage.{is_word, waiting, running, kept, mended, Grouped, grouped, replaced_in, added_in, removed_in, changes}
use Rattle.salvage_meaning.proofs.Running.{run-quiet, small-running}
use Rattle.salvage_meaning.proofs.Steps.{kept_word, kept-taken, kept-refused, mended-word, mended-head, grouped-word, grouped-head, space-more}
use Rattle.salvage_meaning.proofs.Groups.{mended-words}
use Rattle.salvage_meaning.proofs.Same.{word_size}
use Rattle.salvage.specs.declared.record.Tally.{Tally}
use Rattle.salvage.specs.Taking.{waiting_state, counts, unless_same, Minded, minded, worded, tally_ran, ran}
use Rattle.salvage.proofs.Takes.{minded-off, minded-word, minded-run}
use Rattle.salvage.specs.Working.{written}
use Rattle.salvage.proofs.Feeds.{Both, both, both_of, minds, wrotes}

-- ---- the words of a record that is run

module _ (s : State) where
  abbrev before : State
  before = waiting_state s

  answered-none : (r : Ran) → (code.answered before r).shown ≡ 0
  unfolding code.answered
  answered-none r = go (is_done r.why)
    where
      go : (b : Bool)
          → (cond b (code.went before r.receiver (r.words ++ drop (length r.words) before.due) (length r.words)) (code.refused_by before r.why)).shown ≡ 0
      go true = refl
      go false = refl

  shown-role : (ro : Role) (k : ℕ) (b : List ℕ) → (code.by_role ro before 0 k b).shown ≡ 0
  unfolding code.opened code.heard code.finished code.unless_due left
  shown-role Open k b = go (is_done o.why)
    where
      o : Opening
      o = opening (accord_of k b) (window_of b) (start_at (start_of b))

      go : (t : Bool) → (cond t (code.went before o.receiver before.due 0) (code.refused_by before o.why)).shown ≡ 0
      go true = refl
      go false = refl
  shown-role Symbol k b = answered-none (hearing before.receiver (marked_piece (mark_in k b ∷ []) (coordinates_of k b)) (length before.due))
  shown-role Word k b = refl
  shown-role Finish k b = answered-none (finishing before.receiver (length before.due))
  shown-role Unknown k b = refl

  shown-none : (r : Entry) → (took before r).shown ≡ 0
  unfolding took
  shown-none r = shown-role (kind_of r.kind).role r.kind r.body

left-belong : (s : State) → s.shown ≡ 0 → left_of s ≡ take s.given s.due
unfolding left
left-belong s e = rw e

-- ---- what the state holds

pub record Holds (s : State) (l : Line) (d : List ℕ) : Type 0 where
  pub receiver : s.receiver ≡ receiver_of l
  pub fine : FineLine l
  pub due : left_of s ≡ d
  pub long : length s.due ≡ 65
  pub on : agreed s.verdict ≡ true

agreed-capped : (v : Verdict) → agreed (capped_verdict v) ≡ agreed v
agreed-capped (Agree n) = refl
agreed-capped (Differs n g h) = refl
agreed-capped (Extra n g) = refl
agreed-capped (Missing n h) = refl
agreed-capped (Refused n w) = refl
agreed-capped (Malformed p) = refl

module _ (s : State) (l : Line) (d : List ℕ) (h : Holds s l d) (r : Entry) where
  abbrev next : State
  next = took (waiting_state s) r

  waits : Shows (waiting_state s) (waiting l)
  unfolding left capped
  waits = record { receiver = h.receiver; fine = h.fine; due = refl; long = h.long; records = refl; verdict = refl }

  shows : Shows next (running l r)
  shows = shows-took (waiting_state s) (waiting l) r waits

  next-agreed : agreed next.verdict ≡ agreed (running l r).verdict
  next-agreed = ap agreed shows.verdict ∙ agreed-capped (running l r).verdict

  next-words : take next.given next.due ≡ (running l r).due
  next-words = sym (left-belong next (shown-none s r)) ∙ shows.due

  next-holds : agreed (running l r).verdict ≡ true → Holds next (running l r).line (running l r).due
  next-holds e = record { receiver = shows.receiver; fine = shows.fine; due = shows.due; long = shows.long; on = next-agreed ∙ e }

-- ---- after a refusal

pub off-minds : (b : Both) (rs : List Entry) → agreed b.state.verdict ≡ false → (minds b rs ≡ b) × (wrotes b rs ≡ [])
unfolding minds wrotes
off-minds b [] e = (refl, refl)
off-minds b (r ∷ rs) e =
    let ih = off-minds b rs e in
    let m = minded-off b.state b.tally r e in
    (ap (λ (x : Minded). minds (both_of x) rs) m ∙ ih.0, ap (λ (x : Minded). written x r ++ wrotes (both_of x) rs) m ∙ ih.1)

-- ---- the counts

abbrev pub tallied : ℕ → ℕ → ℕ → ℕ → Tally
tallied r a m k = counts (capped r) (capped a) (capped m) (capped k)

-- what is held where the words `old` are set against `new`, after the words d that had no old one against them; many bytes were kept for it, and the counts
-- before it were R, A, M and K
pub record Counted (a : Both) (old : Grouped) (new : List (List ℕ)) (many : ℕ) (d : List ℕ) (R A M K : ℕ) : Type 0 where
  pub replaced : a.tally.replaced ≡ capped (R + (replaced_in old.front d + changes replaced_in old.later new))
  pub added : capped (a.tally.added + length (left_of a.state)) ≡ capped (A + (added_in old.front d + changes added_in old.later new))
  pub removed : a.tally.removed ≡ capped (M + (removed_in old.front d + changes removed_in old.later new))
  pub space : a.tally.kept ≡ capped (K + many)

abbrev nothing : Grouped
nothing = record { front = []; later = [] }

none-counted : (a : Both) (d : List ℕ) (R A A' M K : ℕ) → a.tally ≡ tallied R A' M K → A' + length (left_of a.state) ≡ A + length d → Counted a nothing [] 0 d R A M K
unfolding changes replaced_in
none-counted a d R A A' M K e h =
    let z : (n : ℕ) → n ≡ n + 0 = λ n. omega arith in
    record {
      replaced = ap (λ (t : Tally). t.replaced) e ∙ ap capped (z R);
      added = ap (λ (t : Tally). capped (t.added + length (left_of a.state))) e ∙ capped-more A' (length (left_of a.state)) ∙ ap capped (omega arith);
      removed = ap (λ (t : Tally). t.removed) e ∙ ap capped (omega arith);
      space = ap (λ (t : Tally). t.kept) e ∙ ap capped (z K);
    }

replaced-none : (ws : List ℕ) → replaced_in ws [] ≡ 0
unfolding replaced_in
replaced-none [] = refl
replaced-none (w ∷ ws) = refl

module _ (a : Both) (old : Grouped) (new : List (List ℕ)) (many R A M K : ℕ) where
  -- an old word where none belongs
  more-removed : (g : ℕ) → Counted a old new many [] R A (M + 1) (K + 5) → Counted a (record { front = g ∷ old.front; later = old.later }) new (5 + many) [] R A M K
  unfolding replaced_in
  more-removed g c =
      record {
        replaced = c.replaced ∙ ap (λ (n : ℕ). capped (R + (n + changes replaced_in old.later new))) (replaced-none old.front);
        added = c.added ∙ ap capped (omega arith);
        removed = c.removed ∙ ap capped (omega arith);
        space = c.space ∙ ap capped (omega arith);
      }

  -- one where the word w belongs
  set-against : (g w : ℕ) (d : List ℕ) → Counted a old new many d (R + cond (eqb g w) 0 1) A M (K + 5)
      → Counted a (record { front = g ∷ old.front; later = old.later }) new (5 + many) (w ∷ d) R A M K
  unfolding replaced_in
  set-against g w d c =
      record {
        replaced = c.replaced ∙ ap capped (omega arith);
        added = c.added ∙ ap capped (omega arith);
        removed = c.removed ∙ ap capped (omega arith);
        space = c.space ∙ ap capped (omega arith);
      }

  -- a record of n bytes, after which the words ws belong
  more-kept : (n : ℕ) (ws d : List ℕ) → Counted a old new many ws R (A + length d) M (K + n)
      → Counted a (record { front = []; later = old.front ∷ old.later }) (ws ∷ new) (n + many) d R A M K
  unfolding replaced_in changes
  more-kept n ws d c =
      record {
        replaced = c.replaced ∙ ap capped (omega arith);
        added = c.added ∙ ap capped (omega arith);
        removed = c.removed ∙ ap capped (omega arith);
        space = c.space ∙ ap capped (omega arith);
      }

-- ---- one record

-- what is held after a word
module _ (s : State) (l : Line) (R A M K g : ℕ) where
  abbrev after : Minded
  after = worded s (tallied R A M K) g

  word_none : Holds s l [] → Holds after.state l [] × (after.tally ≡ tallied R A (M + 1) (K + 5))
  word_none h =
      rw (h.due, capped-more M 1, capped-more K 5) (record { receiver = h.receiver; fine = h.fine; due = h.due; long = h.long; on = h.on }, refl)

  unless-more : (w : ℕ) → unless_same g w (capped R) ≡ capped (R + cond (eqb g w) 0 1)
  unless-more w = go (eqb g w)
    where
      go : (b : Bool) → cond b (capped R) (capped (capped R + 1)) ≡ capped (R + cond b 0 1)
      go true = let z : R ≡ R + 0 = omega arith in ap capped z
      go false = capped-more R 1

  word_some : (w : ℕ) (d : List ℕ) → Holds s l (w ∷ d) → Holds after.state l d × (after.tally ≡ tallied (R + cond (eqb g w) 0 1) A M (K + 5))
  unfolding left
  word_some w d h =
      let shorter : drop (s.shown + 1) (take s.given s.due) ≡ d = sym (drop-drop 1 s.shown (take s.given s.due)) ∙ ap (λ (x : List ℕ). drop 1 x) h.due in
      rw (h.due, unless-more w, capped-more K 5) (record { receiver = h.receiver; fine = h.fine; due = shorter; long = h.long; on = h.on }, refl)

-- ---- all of them

abbrev pub Comes : Both → List Entry → Line → List Entry → List ℕ → ℕ → ℕ → ℕ → ℕ → Type 0
Comes a ws l old d R A M K = (ws ≡ mended l old) × Counted a (grouped old) (grouped (mended l old)).later (length (bytes_of old)) d R A M K

module _ (s : State) (t : Tally) (r : Entry) (rs : List Entry) (m : Minded) (e : minded s t r ≡ m) where
  minds-first : minds (both s t) (r ∷ rs) ≡ minds (both_of m) rs
  unfolding minds
  minds-first = ap (λ (x : Minded). minds (both_of x) rs) e

  wrotes-first : wrotes (both s t) (r ∷ rs) ≡ written m r ++ wrotes (both_of m) rs
  unfolding wrotes
  wrotes-first = ap (λ (x : Minded). written x r ++ wrotes (both_of x) rs) e

-- so it is of some records, whatever came before them
abbrev AllCome : List Entry → Type 0
AllCome rs = (s : State) (l : Line) (d : List ℕ) → Holds s l d → (R A M K : ℕ)
    → Comes (minds (both s (tallied R A M K)) rs) (wrotes (both s (tallied R A M K)) rs) l (kept l rs) d R A M K

-- a word first
module _ (r : Entry) (rs : List Entry) (w : is_word r ≡ true) (four : length r.body ≡ 4) (ih : AllCome rs) (s : State) (l : Line) (R A M K : ℕ) where
  abbrev g : ℕ
  g = word_of r.body

  abbrev t : Tally
  t = tallied R A M K

  word_first : (d d' : List ℕ) (R' M' : ℕ) → Holds s l d → Holds (worded s t g).state l d' → (worded s t g).tally ≡ tallied R' A M' (K + 5)
      → (Counted (minds (both_of (worded s t g)) rs) (grouped (kept l rs)) (grouped (mended l (kept l rs))).later (length (bytes_of (kept l rs))) d' R' A M' (K + 5)
      → Counted (minds (both_of (worded s t g)) rs) (record { front = g ∷ (grouped (kept l rs)).front; later = (grouped (kept l rs)).later }) (grouped (mended l (kept l rs))).later
      (5 + length (bytes_of (kept l rs))) d R A M K)
      → Comes (minds (both s t) (r ∷ rs)) (wrotes (both s t) (r ∷ rs)) l (kept l (r ∷ rs)) d R A M K
  word_first d d' R' M' h h' e more =
      let old = kept l rs in
      let a = minded-word s t r h.on w in
      let k = subst (λ (x : Tally). Comes (minds (both (worded s t g).state x) rs) (wrotes (both (worded s t g).state x) rs) l old d' R' A M' (K + 5)) (sym e) (ih _ l d' h' R' A M' (K + 5)) in
      rw (minds-first s t r rs _ a, wrotes-first s t r rs _ a, kept_word l r rs w, mended-word l r old w, grouped-word r old w, space-more r old 4 four) (k.0, more k.1)

  word-comes : (d : List ℕ) → Holds s l d → Comes (minds (both s t) (r ∷ rs)) (wrotes (both s t) (r ∷ rs)) l (kept l (r ∷ rs)) d R A M K
  word-comes [] h = let n = word_none s l R A M K g h in word_first [] [] R (M + 1) h n.0 n.1 (more-removed _ _ _ _ R A M K g)
  word-comes (x ∷ d) h = let n = word_some s l R A M K g x d h in word_first (x ∷ d) d (R + cond (eqb g x) 0 1) M h n.0 n.1 (set-against _ _ _ _ R A M K g x d)

-- a record that is none
module _ (r : Entry) (rs : List Entry) (w : is_word r ≡ false) (ih : AllCome rs) (s : State) (l : Line) (d : List ℕ) (h : Holds s l d) (R A M K : ℕ) where
  abbrev u : Tally
  u = tallied R A M K

  abbrev n : State
  n = next s l d h r

  abbrev size : ℕ
  size = (kind_of r.kind).size

  -- what is held after it
  ran-is : (b : Bool) → agreed (running l r).verdict ≡ b → minded s u r ≡ record { state = n; tally = tally_ran s u size b; writes = b }
  unfolding ran
  ran-is b e = minded-run s u r h.on w ∙ rw (next-agreed s l d h r ∙ e)

  taken-comes : length r.body ≡ size → agreed (running l r).verdict ≡ true
      → Comes (minds (both s u) (r ∷ rs)) (wrotes (both s u) (r ∷ rs)) l (kept l (r ∷ rs)) d R A M K
  taken-comes f e =
      let q = (running l r).line in
      let ws = (running l r).due in
      let old = kept q rs in
      let m = ran-is true e in
      let z : tally_ran s u size true ≡ tallied R (A + length d) M (K + (1 + size)) = rw (h.due, capped-more A (length d), capped-more K (1 + size)) in
      let i = subst (λ (x : Tally). Comes (minds (both n x) rs) (wrotes (both n x) rs) q old ws R (A + length d) M (K + (1 + size))) (sym z)
      (ih n q ws (next-holds s l d h r e) R (A + length d) M (K + (1 + size))) in (
        wrotes-first s u r rs _ m ∙ ap₂ (λ (x : List ℕ) (y : List Entry). r ∷ (word_entries x ++ y)) (next-words s l d h r) i.0
            ∙ sym (mended-head l r old w) ∙ ap (mended l) (sym (kept-taken l r rs w e)),
        rw (minds-first s u r rs _ m, kept-taken l r rs w e, mended-words l r old w (small-running l r w h.fine), grouped-head r old w, space-more r old size f)
            (more-kept _ _ _ _ R A M K (1 + size) ws d i.1),
      )

  refused-comes : agreed (running l r).verdict ≡ false → Comes (minds (both s u) (r ∷ rs)) (wrotes (both s u) (r ∷ rs)) l (kept l (r ∷ rs)) d R A M K
  unfolding mended grouped bytes_of
  refused-comes e =
      let m = ran-is false e in
      let b = both n (tally_ran s u size false) in
      let off = off-minds b rs (next-agreed s l d h r ∙ e) in
      let z : tally_ran s u size false ≡ tallied R (A + length d) M K = rw (h.due, capped-more A (length d)) in
      let none : left_of n ≡ [] = (shows s l d h r).due ∙ run-quiet l r w e in
      let few : length (left_of n) ≡ 0 = ap length none in
      rw (minds-first s u r rs _ m, wrotes-first s u r rs _ m, off.0, off.1, kept-refused l r rs w e) (refl, none-counted b d R A (A + length d) M K z (omega arith))

pub comes : (rs : List Entry) (p : Phase) → Formed p rs → AllCome rs
unfolding minds wrotes kept mended grouped bytes_of
comes [] p f s l d h R A M K = (refl, none-counted (both s (tallied R A M K)) d R A A M K refl (ap (λ (x : List ℕ). A + length x) h.due))
comes (r ∷ rs) p f s l d h R A M K = go (is_word r) refl (agreed (running l r).verdict) refl (comes rs (after_role p (kind_of r.kind).role) f.3)
  where
    go : (a : Bool) → is_word r ≡ a → (b : Bool) → agreed (running l r).verdict ≡ b → AllCome rs
        → Comes (minds (both s (tallied R A M K)) (r ∷ rs)) (wrotes (both s (tallied R A M K)) (r ∷ rs)) l (kept l (r ∷ rs)) d R A M K
    go true w b e ih = word-comes r rs w (f.1 ∙ word_size r w) ih s l R A M K d h
    go false w true e ih = taken-comes r rs w ih s l d h R A M K f.1 e
    go false w false e ih = refused-comes r rs w ih s l d h R A M K e
