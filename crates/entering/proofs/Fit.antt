-- A record in which no fault is found is fit. Assumes nothing.
use Rattle.std.proofs.Common.{◌≡◌, ℕ, List, None, arith}
use Rattle.std.proofs.lemmas.Bool.Decides.{nat_tests}
use Rattle.rules.specs.declared.lines.Interval.{Interval}
use Rattle.rules.specs.declared.lines.StopMark.{StopMark}
use Rattle.entering.specs.Entering.{interval_fault, mark_fault, interval_of, mark_of, FitInterval, FitMark}

pub interval_fit : (table : List Interval) (count number metres : ℕ) → interval_fault table count number metres ≡ None → FitInterval (interval_of number metres)
interval_fit table count number metres h = (grind (arith, nat_tests), grind (arith, nat_tests))

pub mark_fit : (table : List StopMark) (count number position danger : ℕ) → mark_fault table count number position danger ≡ None → FitMark (mark_of number position danger)
mark_fit table count number position danger h = record { within = grind (arith, nat_tests); not_before = grind (arith, nat_tests); near = grind (arith, nat_tests) }
