-- The byte step gives the reading: pushed one after another, the bytes of a capture make its records whole one by one, and the frame after
-- the last byte tells how the capture ends.
--   Agrees r q      what was pushed is what was read
--   Ready f p at    the frame f is between records, in phase p, at the offset `at`
--   Inside f k at xs   it is inside a record of kind k, the bytes xs of whose body have come
--   filled, halts   the rest of a body comes, or not: the input ends before it, or a byte comes that may not be there
--   following-reads THE THEOREM
--   following-append   bytes in two lumps
use mathlib.Core.Path.{◌≡◌, refl, sym, ap, subst, ◌∙◌}
use mathlib.Core.Bool.{Bool, true, false, cond}
use mathlib.Core.List.{List, [], ◌∷◌, ◌++◌, append_assoc}
use Prim.Native.Nat.{ℕ, zero, suc, ◌+◌, ◌≤◌, ◌<◌}
use native.Mathlib.Omega.{arith}
use native.Mathlib.Numerals.{add-one}
use borrow.Author.Tests.{lt-ltb, le-ltb, ltb-true, ltb-false, le-leb, leb-true}
use lib.Dec.{eqb, leb, ltb}
use lib.ListN.{length, take, drop, set, length-set, length-append, length-drop}
use lib.Seq.{take-suc-set, take-append_seam}
use Rattle.records.specs.declared.Role.{Role}
use Rattle.records.specs.declared.Role.TheVariants.{Open, Symbol, Word, Finish, Unknown}
use Rattle.records.specs.declared.Phase.{Phase}
use Rattle.records.specs.declared.Phase.TheVariants.{Start, Opened, Running, Over}
use Rattle.records.specs.declared.Stage.{Stage}
use Rattle.records.specs.declared.Stage.TheVariants.{Part, Whole, Bad}
use Rattle.records.specs.declared.Frame.{Frame}
use Rattle.records.specs.Kinds.{kind_of, may_stand, after_role, begins, row}
use Rattle.records.specs.Values.{Entry, entry, fits_from, body_fits}
use Rattle.records.specs.Reading.{clean, malformed, Reading, stops_at, followed_by, nothing_more, stands, reading_from, reading_of}
use Rattle.records.specs.Frames.{capped, stage_at, fresh, begun, may_grow, spoilt, grew, grown, pushed_at, pushed, Read, ended, before, following, ending_of, capped_ending}
use Rattle.records.proofs.Counts.{capped-more}
use Rattle.records.proofs.Fits.{both_true, fits-front, fits_next}

-- ---- the table

-- no body is longer than a frame can hold
pub size_fits : (k : ℕ) → (kind_of k).size ≤ 9
unfolding kind_of
size_fits k = go (eqb k 1) (eqb k 2) (eqb k 3) (eqb k 4) (eqb k 5) (eqb k 6)
  where
    go : (a b c d e f : Bool)
        → (cond a (row Open 3)
        (cond b (row Symbol 8) (cond c (row Word 4) (cond d (row Finish 0) (cond e (row Symbol 9) (cond f (row Open 3) (row Unknown 0))))))).size ≤ 9
    go true b c d e f = omega arith
    go false true c d e f = omega arith
    go false false true d e f = omega arith
    go false false false true e f = omega arith
    go false false false false true f = omega arith
    go false false false false false true = omega arith
    go false false false false false false = omega arith

false-true : false ≡ true → ⊥
false-true e = let z : ◌≡◌ {A = ℕ} 0 1 = cc in omega arith

-- after a record that may stand the capture has begun
pub begins-after : (p : Phase) (r : Role) → may_stand p r ≡ true → begins (after_role p r) ≡ true
begins-after p Open h = refl
begins-after p Symbol h = refl
begins-after p Finish h = refl
begins-after p Unknown h = absurd (false-true h)
begins-after Start Word h = absurd (false-true h)
begins-after Opened Word h = refl
begins-after Running Word h = refl
begins-after Over Word h = refl

-- ---- frames

pub record Agrees (r : Read) (q : Reading) : Type 0 where
  pub entries : r.entries ≡ q.records
  pub ending : ending_of r.frame ≡ capped_ending q.ending

pub record Ready (f : Frame) (p : Phase) (at : ℕ) : Type 0 where
  pub nine : length f.body ≡ 9
  pub phase : f.phase ≡ p
  pub fed : f.fed ≡ capped at
  pub step : (b : ℕ) → pushed f b ≡ begun f b
  pub ends : ending_of f ≡ capped_ending (cond (begins p) clean (malformed at))

pub record Inside (f : Frame) (k at : ℕ) (xs : List ℕ) : Type 0 where
  pub stage : f.stage ≡ Part
  pub begun : begins f.phase ≡ true
  pub kind : f.kind ≡ k
  pub have : f.have ≡ length xs
  pub body : take f.have f.body ≡ xs
  pub nine : length f.body ≡ 9
  pub from : f.at ≡ capped at
  pub fed : f.fed ≡ capped (at + 1 + length xs)
  pub right : body_fits k xs ≡ true
  pub more : length xs < (kind_of k).size

fresh-ready : Ready fresh Start 0
unfolding pushed capped
fresh-ready = record { nine = refl; phase = refl; fed = refl; step = λ b. refl; ends = refl }

-- a frame that has just become whole
whole_ready : (f : Frame) (p : Phase) (at : ℕ) → f.stage ≡ Whole → length f.body ≡ 9 → f.phase ≡ p → begins p ≡ true → f.fed ≡ capped at → Ready f p at
unfolding pushed
whole_ready f p at s l e h d = record { nine = l; phase = e; fed = d; step = λ b. rw s; ends = rw (s, h) }

module _ (f : Frame) (k at : ℕ) (xs : List ℕ) (i : Inside f k at xs) (b : ℕ) where
  few : f.have < 9
  few = omega (arith, i.have, i.more, size_fits k)

  -- whether the byte may come is whether the body fits with it
  asked : may_grow f b ≡ body_fits k (xs ++ b ∷ [])
  unfolding may_grow
  asked =
      let t : take (length xs) f.body ≡ xs = ap (λ (n : ℕ). take n f.body) (sym i.have) ∙ i.body in
      rw (lt-ltb f.have 9 few, i.kind, i.have) (sym (fits_next k xs b f.body t i.right))

  grows : body_fits k (xs ++ b ∷ []) ≡ true → pushed f b ≡ grew f b
  unfolding pushed grown
  grows e = ap (λ (s : Stage). pushed_at s f b) i.stage ∙ ap (λ (t : Bool). cond t (grew f b) (spoilt f)) (asked ∙ e)

  spoils : body_fits k (xs ++ b ∷ []) ≡ false → pushed f b ≡ spoilt f
  unfolding pushed grown
  spoils e = ap (λ (s : Stage). pushed_at s f b) i.stage ∙ ap (λ (t : Bool). cond t (grew f b) (spoilt f)) (asked ∙ e)

  long : f.have + 1 ≡ length (xs ++ b ∷ [])
  long = omega (arith, i.have, length-append xs (b ∷ []))

  taken : take (f.have + 1) (set f.body f.have b) ≡ xs ++ b ∷ []
  taken = rw (add-one, take-suc-set f.body f.have b (omega (arith, few, i.nine)), i.body)

  fed-is : capped (f.fed + 1) ≡ capped (at + 1 + length (xs ++ b ∷ []))
  fed-is =
      let e : at + 1 + length xs + 1 ≡ at + 1 + length (xs ++ b ∷ []) = omega (arith, length-append xs (b ∷ [])) in
      ap (λ (n : ℕ). capped (n + 1)) i.fed ∙ capped-more (at + 1 + length xs) 1 ∙ ap capped e

  stays-inside : body_fits k (xs ++ b ∷ []) ≡ true → length xs + 1 < (kind_of k).size → Inside (grew f b) k at (xs ++ b ∷ [])
  stays-inside e h =
      record {
        stage = rw (i.kind, lt-ltb (f.have + 1) (kind_of k).size (omega (arith, i.have)));
        begun = i.begun;
        kind = i.kind;
        have = long;
        body = taken;
        nine = length-set f.body f.have b ∙ i.nine;
        from = i.from;
        fed = fed-is;
        right = e;
        more = omega (arith, length-append xs (b ∷ []));
      }

  grew-whole : length xs + 1 ≡ (kind_of k).size → (grew f b).stage ≡ Whole
  grew-whole h = rw (i.kind, le-ltb (f.have + 1) (kind_of k).size (omega (arith, i.have)))

  becomes-whole : length xs + 1 ≡ (kind_of k).size → Ready (grew f b) f.phase (at + 1 + (kind_of k).size)
  becomes-whole h =
      let e : at + 1 + length (xs ++ b ∷ []) ≡ at + 1 + (kind_of k).size = omega (arith, length-append xs (b ∷ [])) in
      whole_ready (grew f b) f.phase _ (grew-whole h) (length-set f.body f.have b ∙ i.nine) refl i.begun (fed-is ∙ ap capped e)

  said-whole : length xs + 1 ≡ (kind_of k).size → ended (grew f b).stage (grew f b) ≡ entry k (xs ++ b ∷ []) ∷ []
  said-whole h =
      let e : (kind_of k).size ≡ f.have + 1 = omega (arith, i.have) in
      rw (grew-whole h, i.kind, e, taken)

-- ---- one byte

followed : (f g : Frame) (b : ℕ) (bs : List ℕ) (s : Stage) → pushed f b ≡ g → g.stage ≡ s → following f (b ∷ bs) ≡ before (ended s g) (following g bs)
unfolding following
followed f g b bs s e h = ap (λ (x : Frame). before (ended x.stage x) (following x bs)) e ∙ ap (λ (t : Stage). before (ended t g) (following g bs)) h

-- ---- the bytes of a body

pub record Filled (f : Frame) (k at : ℕ) (xs : List ℕ) (m : ℕ) (bs : List ℕ) : Type 0 where
  pub next : Frame
  pub ready : Ready next f.phase (at + 1 + (kind_of k).size)
  pub same : following f bs ≡ before (entry k (xs ++ take m bs) ∷ []) (following next (drop m bs))

none_left : (j : ℕ) → suc j ≤ 0 → ⊥
none_left j h = omega arith

-- the bytes of a body one after another, the next of them apart
one_more : (xs : List ℕ) (b : ℕ) (ys : List ℕ) → (xs ++ b ∷ []) ++ ys ≡ xs ++ b ∷ ys
one_more xs b ys = append_assoc xs (b ∷ []) ys

filled : (j : ℕ) (bs : List ℕ) (f : Frame) (k at : ℕ) (xs : List ℕ) → Inside f k at xs → length xs + suc j ≡ (kind_of k).size → suc j ≤ length bs
    → body_fits k (xs ++ take (suc j) bs) ≡ true → Filled f k at xs (suc j) bs
filled j [] f k at xs i e h w = absurd (none_left j h)
filled zero (b ∷ bs) f k at xs i e h w =
    record {
      next = grew f b;
      ready = becomes-whole f k at xs i b (omega arith);
      same = followed f (grew f b) b bs (grew f b).stage (grows f k at xs i b w) refl
          ∙ ap (λ (l : List Entry). before l (following (grew f b) bs)) (said-whole f k at xs i b (omega arith));
    }
filled (suc j) (b ∷ bs) f k at xs i e h w =
    let l = one_more xs b (take (suc j) bs) in
    let v : body_fits k ((xs ++ b ∷ []) ++ take (suc j) bs) ≡ true = ap (body_fits k) l ∙ w in
    let u : body_fits k (xs ++ b ∷ []) ≡ true = fits-front k (xs ++ b ∷ []) (take (suc j) bs) v in
    let n = stays-inside f k at xs i b u (omega arith) in
    let r = filled j bs (grew f b) k at (xs ++ b ∷ []) n (omega (arith, length-append xs (b ∷ []))) (omega arith) v in
    record {
      next = r.next;
      ready = r.ready;
      same = followed f (grew f b) b bs Part (grows f k at xs i b u) n.stage ∙ r.same
          ∙ ap (λ (l : List ℕ). before (entry k l ∷ []) (following r.next (drop (suc j) bs))) l;
    }

-- ---- a malformed capture stays so

stays : (f : Frame) (b : ℕ) → f.stage ≡ Bad → pushed f b ≡ f
unfolding pushed
stays f b h = rw h

pub swallows : (f : Frame) (bs : List ℕ) → f.stage ≡ Bad → following f bs ≡ record { entries = []; frame = f }
unfolding following
swallows f [] h = refl
swallows f (b ∷ bs) h = followed f f b bs Bad (stays f b h) h ∙ swallows f bs h

-- ---- a body that does not stand there

-- a whole body stands there if its last byte fits
whole-stands : (k : ℕ) (xs : List ℕ) (b : ℕ) (bs : List ℕ) → body_fits k (xs ++ b ∷ []) ≡ true → length xs + 1 ≡ (kind_of k).size → stands k (xs ++ b ∷ bs) ≡ true
whole-stands k xs b bs u h =
    let l = one_more xs b bs in
    let n : (kind_of k).size ≡ length (xs ++ b ∷ []) = omega (arith, length-append xs (b ∷ [])) in
    let t : take (kind_of k).size (xs ++ b ∷ bs) ≡ xs ++ b ∷ [] = rw (n, sym l) (take-append_seam (xs ++ b ∷ []) bs) in
    let m : (kind_of k).size ≤ length (xs ++ b ∷ bs) = omega (arith, length-append xs (b ∷ bs)) in
    rw (le-leb (kind_of k).size (length (xs ++ b ∷ bs)) m, t, u)

halts : (bs : List ℕ) (f : Frame) (k at : ℕ) (xs : List ℕ) → Inside f k at xs → stands k (xs ++ bs) ≡ false → Agrees (following f bs) (stops_at (malformed at))
unfolding following
halts [] f k at xs i h = record { entries = refl; ending = rw (i.stage, i.from) }
halts (b ∷ bs) f k at xs i h = go (body_fits k (xs ++ b ∷ [])) refl (ltb (length xs + 1) (kind_of k).size) refl
    (λ u m. halts bs (grew f b) k at (xs ++ b ∷ []) (stays-inside f k at xs i b u m) (ap (stands k) (one_more xs b bs) ∙ h))
  where
    go : (t : Bool) → body_fits k (xs ++ b ∷ []) ≡ t → (l : Bool) → ltb (length xs + 1) (kind_of k).size ≡ l
        → (body_fits k (xs ++ b ∷ []) ≡ true → length xs + 1 < (kind_of k).size → Agrees (following (grew f b) bs) (stops_at (malformed at))) → Agrees (following f (b ∷ bs)) (stops_at (malformed at))
    go false u l v ih =
        let s : following f (b ∷ bs) ≡ record { entries = []; frame = spoilt f } = followed f (spoilt f) b bs Bad (spoils f k at xs i b u) refl ∙ swallows (spoilt f) bs refl in
        subst (λ (x : Read). Agrees x (stops_at (malformed at))) (sym s) (record { entries = refl; ending = ap malformed i.from })
    go true u true v ih =
        let m = ltb-true (length xs + 1) (kind_of k).size v in
        let n = stays-inside f k at xs i b u m in
        subst (λ (x : Read). Agrees x (stops_at (malformed at))) (sym (followed f (grew f b) b bs Part (grows f k at xs i b u) n.stage)) (ih u m)
    go true u false v ih =
        absurd (false-true (sym h ∙ whole-stands k xs b bs u (omega (arith, i.more, ltb-false (length xs + 1) (kind_of k).size v))))

-- ---- the whole

Reads : ℕ → List ℕ → Type 0
Reads n bs = (f : Frame) (p : Phase) (at : ℕ) → Ready f p at → Agrees (following f bs) (reading_from n p at bs)

nothing_left : (f : Frame) (p : Phase) (at : ℕ) → Ready f p at → Agrees (following f []) (nothing_more p at)
unfolding following
nothing_left f p at r = record { entries = refl; ending = r.ends }

module _ (n k : ℕ) (bs : List ℕ) (ih : (m : ℕ) → Reads n (drop m bs)) (f : Frame) (p : Phase) (at : ℕ) (r : Ready f p at) where
  abbrev size : ℕ
  size = (kind_of k).size

  abbrev role : Role
  role = (kind_of k).role

  abbrev rest : Reading
  rest = reading_from n (after_role p role) (at + 1 + size) (drop size bs)

  -- the frame after a kind byte that may stand
  abbrev took : Frame
  took = record { stage = stage_at 0 size; phase = after_role f.phase role; kind = k; have = 0; body = f.body; at = f.fed; fed = capped (f.fed + 1) }

  begun-took : may_stand p role ≡ true → pushed f k ≡ took
  unfolding begun
  begun-took h = r.step k ∙ rw (r.phase, h)

  took-fed : capped (f.fed + 1) ≡ capped (at + 1)
  took-fed = ap (λ (n : ℕ). capped (n + 1)) r.fed ∙ capped-more at 1

  took-phase : may_stand p role ≡ true → begins (after_role f.phase role) ≡ true
  took-phase h = rw r.phase (begins-after p role h)

  refused : may_stand p role ≡ false → Agrees (following f (k ∷ bs)) (stops_at (malformed at))
  unfolding begun
  refused h =
      let g : Frame = record { stage = Bad; phase = f.phase; kind = k; have = 0; body = f.body; at = f.fed; fed = capped (f.fed + 1) } in
      let e : pushed f k ≡ g = r.step k ∙ rw (r.phase, h) in
      let s : following f (k ∷ bs) ≡ record { entries = []; frame = g } = followed f g k bs Bad e refl ∙ swallows g bs refl in
      record { entries = rw s; ending = rw (s, r.fed) }

  -- the record is whole, with this frame after it
  onward : (g : Frame) → Ready g (after_role f.phase role) (at + 1 + size) → following f (k ∷ bs) ≡ before (entry k (take size bs) ∷ []) (following g (drop size bs))
      → Agrees (following f (k ∷ bs)) (followed_by (entry k (take size bs)) rest)
  unfolding Reads
  onward g h e =
      let a = ih size g (after_role p role) (at + 1 + size) (subst (λ (q : Phase). Ready g (after_role q role) (at + 1 + size)) r.phase h) in
      record { entries = rw e (ap (λ (l : List Entry). entry k (take size bs) ∷ l) a.entries); ending = rw e a.ending }

  taking : may_stand p role ≡ true → (m : ℕ) → size ≡ m → (t : Bool) → stands k bs ≡ t
      → Agrees (following f (k ∷ bs)) (cond t (followed_by (entry k (take size bs)) rest) (stops_at (malformed at)))
  unfolding following fits_from
  taking h zero e false w = absurd (false-true (sym w ∙ rw (le-leb size (length bs) (omega arith), e)))
  taking h zero e true w =
      let s : took.stage ≡ Whole = rw (le-ltb 0 size (omega arith)) in
      let z : at + 1 ≡ at + 1 + size = omega arith in
      onward took (whole_ready took (after_role f.phase role) _ s r.nine refl (took-phase h) (took-fed ∙ ap capped z)) (followed f took k bs Whole (begun-took h) s ∙ rw e)
  taking h (suc j) e t w =
      let s : took.stage ≡ Part = rw (lt-ltb 0 size (omega arith)) in
      let z : at + 1 ≡ at + 1 + length {A = ℕ} [] = omega arith in
      let i : Inside took k at [] =
      record {
        stage = s;
        begun = took-phase h;
        kind = refl;
        have = refl;
        body = refl;
        nine = r.nine;
        from = r.fed;
        fed = took-fed ∙ ap capped z;
        right = refl;
        more = inside-more e;
      } in
      go t w s i
    where
      inside-more : size ≡ suc j → 0 < (kind_of k).size
      inside-more e = omega arith

      go : (t : Bool) → stands k bs ≡ t → took.stage ≡ Part → Inside took k at [] → Agrees (following f (k ∷ bs)) (cond t (followed_by (entry k (take size bs)) rest) (stops_at (malformed at)))
      go true w s i =
          let v = both_true (leb size (length bs)) (body_fits k (take size bs)) w in
          let u : body_fits k (take (suc j) bs) ≡ true = ap (λ (m : ℕ). body_fits k (take m bs)) (sym e) ∙ v.1 in
          let x = filled j bs took k at [] i (omega arith) (omega (arith, leb-true size (length bs) v.0)) u in
          onward x.next x.ready (followed f took k bs Part (begun-took h) s ∙ x.same ∙ ap (λ (m : ℕ). before (entry k (take m bs) ∷ []) (following x.next (drop m bs))) (sym e))
      go false w s i =
          let x = halts bs took k at [] i w in
          subst (λ (z : Read). Agrees z (stops_at (malformed at))) (sym (followed f took k bs Part (begun-took h) s)) x

  reads-one : Agrees (following f (k ∷ bs)) (reading_from (suc n) p at (k ∷ bs))
  unfolding reading_from
  reads-one = go (may_stand p role) refl
    where
      go : (t : Bool) → may_stand p role ≡ t
          → Agrees (following f (k ∷ bs)) (cond t (cond (stands k bs) (followed_by (entry k (take size bs)) rest) (stops_at (malformed at))) (stops_at (malformed at)))
      go true h = taking h size refl (stands k bs) refl
      go false h = refused h

reads : (n : ℕ) (bs : List ℕ) → length bs ≤ n → Reads n bs
unfolding Reads reading_from
reads zero [] h = nothing_left
reads (suc n) [] h = nothing_left
reads zero (b ∷ bs) h = absurd (none_left (length bs) h)
reads (suc n) (b ∷ bs) h = reads-one n b bs (λ m. reads n (drop m bs) (omega (arith, length-drop m bs)))

-- the records that become whole are those of the reading, and the last frame tells its ending
pub following-reads : (bs : List ℕ) → Agrees (following fresh bs) (reading_of bs)
unfolding reading_of Reads
following-reads bs = reads (length bs) bs (omega arith) fresh Start 0 fresh-ready

-- bytes in two lumps are the bytes in one
pub following-append : (f : Frame) (xs ys : List ℕ) → following f (xs ++ ys) ≡ before (following f xs).entries (following (following f xs).frame ys)
unfolding following
following-append f [] ys = refl
following-append f (x ∷ xs) ys =
    let g = pushed f x in
    let e : following g (xs ++ ys) ≡ before (following g xs).entries (following (following g xs).frame ys) = following-append g xs ys in
    rw (e, append_assoc (ended g.stage g) (following g xs).entries)
