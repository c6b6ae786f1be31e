-- What an opening does, as a function, what it owes in 01's words, and its promise.
--   Opening, opening k w b   what an opening gives: 1, 2, 3 in this order, each leaving a closed receiver, or a fresh one
--   plain_opening k           the plain window and a free start
--   opening_owed k w b        the number of an opening
--   Opens k w b r            the promise of `open_receiver`: result and receiver are the function's; the number is the one owed; a fresh
--                            receiver has been told its opening and no symbol
use Rattle.std.specs.Prelude.{ℕ, ◌≡◌, cond, ◌&&◌, [], leb, Result, Ok, Err, ⊤}
use Rattle.points.specs.declared.Accord.{Accord}
use Rattle.points.specs.Agreed.{is_accord}
use Rattle.machine.specs.Machine.{opened}
use Rattle.reasons.specs.declared.Why.{Why}
use Rattle.reasons.specs.declared.Why.TheVariants.{BadWidth, BadWindow, BadStart}
use Rattle.reasons.specs.Reason.{given_of}
use Rattle.receiver_meaning.specs.Told.{Told, Fine}
use Rattle.openings.specs.declared.Start.{Start}
use Rattle.openings.specs.declared.Start.TheVariants.{Free}
use Rattle.openings.specs.declared.Opened.{Opened}
use Rattle.openings.specs.Given.{plain_window, start_of, start_fits}
-- what the promises need of the machine: its record, the closed one, and the one after a history
pub use Rattle.machine.specs.declared.Receiver.{Receiver}
pub use Rattle.machine.specs.Machine.{shut, machine_of}

pub record Opening : Type 0 where
  pub receiver : Receiver
  pub why : Result ⊤ Why

abbrev pub not_opened : Why → Opening
not_opened w = record { receiver = shut; why = Err w }

-- "Opening order: 1, 2, 3"
unfoldable pub opening : Accord → ℕ → Start → Opening
opening k w b =
    cond (is_accord k)
    (cond (leb 1 w && leb w 64) (cond (start_fits b) (record { receiver = opened k w (start_of b); why = Ok tt }) (not_opened BadStart)) (not_opened BadWindow))
    (not_opened BadWidth)

-- "The plain opening names only u; it has window 32 and a free start" (02, Wish 9)
abbrev pub plain_opening : Accord → Opening
plain_opening k = opening k plain_window Free

-- "1: u above 8", "2: window not 1 to 64", "3: named start above 15"
unfoldable pub opening_owed : Accord → ℕ → Start → ℕ
opening_owed k w b = cond (is_accord k) (cond (leb 1 w && leb w 64) (cond (start_fits b) 0 3) 2) 1

pub record Opens (k : Accord) (w : ℕ) (b : Start) (r : Opened) : Type 0 where
  pub always-given : given_of r.why ≡ given_of (opening k w b).why
  pub always-receiver : r.receiver ≡ (opening k w b).receiver
  pub owed : (given_of r.why).number ≡ opening_owed k w b
  pub fresh : (given_of r.why).number ≡ 0 → let t : Told = record { accord = k; window = w; start = start_of b; heard = [] } in Fine t × (r.receiver ≡ machine_of t)
