-- Rule 5 for an interval beside the stop ground and before it. Assumes nothing.
use Rattle.std.proofs.Common.{◌≡◌, suc, ◌+◌, ◌-◌, ◌<◌, ◌≤◌, sym, ap, ◌∙◌, subst, arith}
use Rattle.codes.specs.declared.speeds.Speed.TheVariants.{V120}
use Rattle.codes.specs.declared.speeds.Code.{Code}
use Rattle.codes.specs.declared.speeds.Code.TheVariants.{Go}
use Rattle.codes.specs.Speeds.{byte}
use Rattle.ground.specs.Ground.{stretch_value}
use Rattle.ground.specs.Kinds.{steepness}
use Rattle.laws.specs.Books.{Emergencies, Services, Distances}
use Rattle.rules.specs.declared.lines.Line.{Line}
use Rattle.rules.specs.Tracks.{Stands, end_of, length_of}
use Rattle.rules.specs.Rules.{train_length, Down, Next}
use Rattle.rules.specs.Searching.{UpTo}
use Rattle.rows.specs.declared.targets.Target.{Target}
use Rattle.rows.specs.declared.passing.Pass.{Pass}
use Rattle.rows.specs.Drawings.{lengths_of}
use Rattle.rows.specs.Targets.{track_of, mark_of, HeldBy}
use Rattle.rows.specs.Passing.{Stage}
use Rattle.rows.proofs.Grounds.{before_from_reached, not_before_from_reached}
use Rattle.rules.proofs.Moved.{moved_more}
use Rattle.rows.proofs.Positions.{begin_back}

byte_within : (c : Code) → byte c ≤ 120
byte_within c = grind arith

module _ (line : Line) (target : Target) (held : HeldBy line.start (lengths_of line.intervals.now) target.position target.held) where
  pub stands : Stands (track_of line) (mark_of target)
  stands = record {
    first = held.first;
    last = held.last;
    begins = let back = begin_back (track_of line) target.held.interval held.first in let is = held.begin_is in let less = held.begins in omega arith;
    ends = let is = held.end_is in let less = held.ends in omega arith;
  }

  module _ (E : Emergencies) (D : Services) (distances : Distances E D) (pass : Pass) (stage : Stage line target E D pass) where
    pub beside_ground : pass.first ≡ pass.interval + 1 → (w : Code) → UpTo (λ c. Next (track_of line) (mark_of target) E D pass.interval c w) (Go V120)
    beside_ground e w c = (
      λ rule. byte_within c,
      λ le before. absurd (not_before_from_reached (track_of line) (mark_of target) E D distances stands pass.interval pass.first stage.reached (omega arith) stage.within before),
    )

    pub before_ground : (pass.first ≡ pass.interval + 1 → ⊥) → (w : Code) (cap : Code) → UpTo (λ c. Down E (stretch_value steepness line.gradients.now (pass.end - train_length) pass.next_end) c w (pass.next_end - pass.end)) cap → UpTo (λ c. Next (track_of line) (mark_of target) E D pass.interval c w) cap
    before_ground apart w cap towards c =
        let behind = stage.reached.behind in
        let reach = stage.reached.within in
        let more : suc pass.interval < pass.first = omega arith in
        let ends = stage.ends in
        let next_ends = stage.next_ends (omega arith) in
        let one = moved_more line.start (lengths_of line.intervals.now) pass.interval in
        let size : pass.next_end - pass.end ≡ length_of (track_of line) (suc pass.interval) = omega arith in
        let same : Down E (stretch_value steepness line.gradients.now (pass.end - train_length) pass.next_end) c w (pass.next_end - pass.end) ≡ Down E (stretch_value steepness line.gradients.now (end_of (track_of line) pass.interval - train_length) (end_of (track_of line) (suc pass.interval))) c w (length_of (track_of line) (suc pass.interval)) =
        ap (λ n. Down E (stretch_value steepness line.gradients.now (n - train_length) pass.next_end) c w (pass.next_end - pass.end)) ends
        ∙ ap (λ n. Down E (stretch_value steepness line.gradients.now (end_of (track_of line) pass.interval - train_length) n) c w (pass.next_end - pass.end)) next_ends
        ∙ ap (λ n. Down E (stretch_value steepness line.gradients.now (end_of (track_of line) pass.interval - train_length) (end_of (track_of line) (suc pass.interval))) c w n) size in (
          λ rule. (towards c).0 (subst (λ (T : Type 0). T) (sym same) (rule (before_from_reached (track_of line) (mark_of target) E D distances stands pass.interval pass.first stage.reached more))),
          λ le before. subst (λ (T : Type 0). T) same ((towards c).1 le),
        )
