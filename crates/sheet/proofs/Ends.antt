-- Where the last interval of a line ends, and which positions are not behind it. Assumes nothing.
use Rattle.std.proofs.Common.{◌≡◌, ℕ, ◌+◌, ◌-◌, ◌&&◌, List, [], ◌∷◌, length, sum_by, nat_le, nat_lt, ◌∙◌, arith}
use Rattle.std.specs.List.{list_all}
use Rattle.std.proofs.lemmas.List.Sums.{sum_by-cons}
use Rattle.std.proofs.lemmas.Bool.Decides.{nat_tests}
use Rattle.rules.specs.declared.lines.Interval.{Interval}
use Rattle.rules.specs.declared.lines.StopMark.{StopMark}
use Rattle.rules.specs.Tracks.{moved_on}
use Rattle.rows.specs.Drawings.{lengths_of}
use Rattle.sheet.specs.Faults.{all_marks_stand}

moved_by_all : (position : ℕ) (intervals : List Interval) → moved_on position (lengths_of intervals) (length (lengths_of intervals)) ≡ position + sum_by (λ (interval : Interval). interval.length) intervals
unfolding moved_on
moved_by_all position [] = omega arith
moved_by_all position (interval ∷ intervals) =
    let more = sum_by-cons (λ (i : Interval). i.length) interval intervals in
    let regrouped : position + interval.length + sum_by (λ (i : Interval). i.length) intervals ≡ position + sum_by (λ (i : Interval). i.length) (interval ∷ intervals) = omega arith in
    moved_by_all (position + interval.length) intervals ∙ regrouped

pub marks_between : (start : ℕ) (intervals : List Interval) (marks : List StopMark)
    → list_all (λ (mark : StopMark). nat_lt start mark.position && nat_le (mark.position - start) (sum_by (λ (interval : Interval). interval.length) intervals)) marks ≡ all_marks_stand start (lengths_of intervals) marks
marks_between start intervals [] = grind arith
marks_between start intervals (mark ∷ marks) = let there = moved_by_all start intervals in let later = marks_between start intervals marks in grind (arith, nat_tests)
