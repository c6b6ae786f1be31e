-- The numbers given back, from 01's table "Numbers given back". What is promised speaks of these numbers and never of the code's
-- names for them. 4 is the sender's; 7 is given no more, and its number stays unused (02, Wish 6).
--   Reason        a number of the table, with the place where it is 5
--   reason n      the number n, which has no place
--   given_of why   what the code's answer stands for: 0 where nothing was refused, or the reason
--   is_done why    nothing was refused
use Rattle.std.specs.Prelude.{ℕ, Bool, eqb, Result, Ok, Err, ⊤}
use Rattle.reasons.specs.declared.Why.{Why}
use Rattle.reasons.specs.declared.Why.TheVariants.{BadWidth, BadWindow, BadStart, BadSample, Full, NoRoom, Closed, Uneven}

pub record Reason : Type 0 where
  pub number : ℕ
  pub place : ℕ

-- every number but 5 has the place 0
abbrev pub reason : ℕ → Reason
reason n = record { number = n; place = 0 }

abbrev pub given_of : Result ⊤ Why → Reason
given_of (Ok x) = reason 0
given_of (Err BadWidth) = reason 1
given_of (Err BadWindow) = reason 2
given_of (Err BadStart) = reason 3
given_of (Err (BadSample p)) = record { number = 5; place = p }
given_of (Err Full) = reason 6
given_of (Err NoRoom) = reason 8
given_of (Err Closed) = reason 9
given_of (Err Uneven) = reason 10

abbrev pub is_done : Result ⊤ Why → Bool
is_done w = eqb (given_of w).number 0
