-- What an end is: a closed receiver, or one whose record is that of what it has been told.
--   Known rx      rx has been told something
--   end_known     every end is closed or known
--   known-live    a known one is live
use mathlib.Core.Path.{◌≡◌, ap, ◌∙◌}
use mathlib.Core.Bool.{Bool, true, false, cond}
use mathlib.Core.Logic.{◌⊎◌, inl, inr, ⊎_elim}
use Rattle.receiver_meaning.specs.Told.{Told, Fine}
use Rattle.receiver_meaning.specs.Owed.{piece_owed, finish_owed}
use Rattle.openings.specs.Opening.{Receiver, shut, machine_of}
use Rattle.openings.proofs.Openings.{opened-end, told-live}
use Rattle.receiver.specs.Doors.{Ran, hearing, finishing}
use Rattle.receiver.proofs.Doors.{hearing-owes, finishing-owes}
use Rattle.receiver.proofs.Left.{shut-hears, shut-finishes}
use Rattle.promises.specs.End.{End, fresh, heard, finished}

pub record Known (rx : Receiver) : Type 0 where
  pub told : Told
  pub fine : Fine told
  pub machine : rx ≡ machine_of told

abbrev known : (t : Told) → Fine t → (rx : Receiver) → rx ≡ machine_of t → Known rx
known t f rx e = record { told = t; fine = f; machine = e }

pub end_known : (rx : Receiver) → End rx → (rx ≡ shut) ⊎ Known rx
end_known rx (fresh ac w b) = ⊎_elim (λ z. inl z) (λ z. let (t, f, e) = z in inr (known t f rx e)) (opened-end ac w b)
end_known rx (heard {rx = q} e p room) =
    ⊎_elim
    (λ (z : q ≡ shut). inl (ap (λ (k : Receiver). (hearing k p room).receiver) z ∙ ap (λ (r : Ran). r.receiver) (shut-hears p room)))
    (λ k. let d = hearing-owes k.told k.fine p room in inr (known (piece_owed k.told p room).told d.fine rx (ap (λ (q : Receiver). (hearing q p room).receiver) k.machine ∙ d.receiver)))
    (end_known q e)
end_known rx (finished {rx = q} e room) =
    ⊎_elim
    (λ (z : q ≡ shut). inl (ap (λ (k : Receiver). (finishing k room).receiver) z ∙ ap (λ (r : Ran). r.receiver) (shut-finishes room)))
    (λ k. go k.told k.fine (finish_owed k.told room).closes (ap (λ (q : Receiver). (finishing q room).receiver) k.machine ∙ (finishing-owes k.told k.fine room).receiver))
    (end_known q e)
  where
    go : (t : Told) → Fine t → (b : Bool) → (finishing q room).receiver ≡ cond b shut (machine_of t) → ((finishing q room).receiver ≡ shut) ⊎ Known (finishing q room).receiver
    go t f true k = inl k
    go t f false k = inr (known t f (finishing q room).receiver k)

pub known-live : (rx : Receiver) → Known rx → rx.live ≡ true
known-live rx k = ap (λ (x : Receiver). x.live) k.machine ∙ told-live k.told k.fine
