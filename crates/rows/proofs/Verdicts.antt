-- A mark stands at one place, and of a row's two verdicts one at most is due. Assumes nothing.
use Rattle.std.proofs.Common.{◌≡◌, ℕ, ◌-◌, ◌<◌, List, length, get_or, Some, None, Option, sym, ap, ◌∙◌, subst, arith}
use native.Mathlib.Decide.{dec_lt}
use Rattle.std.proofs.lemmas.List.{length-map}
use Rattle.codes.specs.declared.speeds.Speed.{Speed}
use Rattle.codes.specs.declared.speeds.Code.{Code}
use Rattle.codes.specs.declared.speeds.Code.TheVariants.{Stop}
use Rattle.codes.specs.Speeds.{speed_of}
use Rattle.laws.specs.Books.{Emergencies, Services}
use Rattle.rules.specs.declared.lines.StopMark.{StopMark}
use Rattle.rules.specs.Tracks.{Track, Mark, moved_on}
use Rattle.rules.specs.Rules.{Rule, touching, ahead, service, stopping, next, Obeys, Allowed, code_at, Lawful}
use Rattle.rules.specs.Rows.{Breaks}
use Rattle.rows.specs.declared.targets.Held.{Held}
use Rattle.rows.specs.declared.targets.Target.{Target}
use Rattle.rows.specs.Drawings.{Drawing, track_drawn, lengths_of}
use Rattle.rows.specs.Targets.{mark_of, marked, HeldBy, LocatedAt, Absent}
use Rattle.rows.specs.Passing.{read_code, codes_of}
use Rattle.rows.specs.declared.letters.StopLetter.{StopLetter}
use Rattle.rows.specs.Asking.{Asked, Unasked, absent, slow, missized}
use Rattle.rows.specs.WorkingOut.{Worked}
use Rattle.rows.specs.Examining.{Passed, Failed, unasked, strange, unlawful}
use Rattle.rules.proofs.Moved.{moved_rises}

-- ---- where a mark stands

same_mark : (o : Option StopMark) (one other : StopMark) → o ≡ Some one → o ≡ Some other → one ≡ other
same_mark o one other e f = let same : Some one ≡ Some other = sym e ∙ f in cc

module _ (start : ℕ) (lengths : List ℕ) (position : ℕ) where
  not_before : (one other : Held) → HeldBy start lengths position one → HeldBy start lengths position other → one.interval < other.interval → ⊥
  not_before one other by_one by-other less =
      let rises = moved_rises start lengths one.interval (other.interval - 1) (omega arith) in
      let ends = by_one.ends in
      let end_is = by_one.end_is in
      let begins = by-other.begins in
      let begin_is = by-other.begin_is in
      omega arith

  same_interval : (one other : Held) → HeldBy start lengths position one → HeldBy start lengths position other → one.interval ≡ other.interval
  same_interval one other by_one by-other =
      elim (dec_lt one.interval other.interval) [
        | yes less ↦ absurd (not_before one other by_one by-other less)
        | no least ↦ elim (dec_lt other.interval one.interval) [ yes less ↦ absurd (not_before other one by-other by_one less) | no most ↦ omega arith ]
      ]

  -- a position lies in one interval
  pub held_same : (one other : Held) → HeldBy start lengths position one → HeldBy start lengths position other → one ≡ other
  held_same one other by_one by-other =
      let place = same_interval one other by_one by-other in
      let begin : one.begin ≡ other.begin = by_one.begin_is ∙ ap (λ h. moved_on start lengths (h - 1)) place ∙ sym by-other.begin_is in
      let end : one.end ≡ other.end = by_one.end_is ∙ ap (moved_on start lengths) place ∙ sym by-other.end_is in
      let same : ◌≡◌ {A = Held} (record { interval = one.interval; begin = one.begin; end = one.end }) (record { interval = other.interval; begin = other.begin; end = other.end }) = cc in
      same

module _ (drawing : Drawing) (number : ℕ) where
  pub located_same : (one other : Target) → LocatedAt drawing number one → LocatedAt drawing number other → one ≡ other
  located_same one other by_one by-other =
      let mark = same_mark (marked drawing.marks number) by_one.mark by-other.mark by_one.marks by-other.marks in
      let position : one.position ≡ other.position = by_one.position ∙ ap (λ (m : StopMark). m.position) mark ∙ sym by-other.position in
      let danger : one.danger ≡ other.danger = by_one.danger ∙ ap (λ (m : StopMark). m.danger) mark ∙ sym by-other.danger in
      let held = held_same drawing.start (lengths_of drawing.intervals) other.position one.held other.held
      (subst (λ x. HeldBy drawing.start (lengths_of drawing.intervals) x one.held) position by_one.held) by-other.held in
      let same : ◌≡◌ {A = Target} (record { position = one.position; danger = one.danger; held = one.held }) (record { position = other.position; danger = other.danger; held = other.held }) = cc in
      same

  pub not_absent_from_located : (target : Target) → LocatedAt drawing number target → Absent drawing number → ⊥
  not_absent_from_located target located none =
      let held = located.held in
      let first = held.first in
      let last = held.last in
      let begin_is = held.begin_is in
      let end_is = held.end_is in
      let begins = held.begins in
      let ends = held.ends in
      let position = located.position in
      none located.mark located.marks target.held.interval first last (omega arith) (omega arith)

-- the approach is one speed
pub speed_same : (approach : ℕ) (one other : Speed) → speed_of approach ≡ Some one → speed_of approach ≡ Some other → one ≡ other
speed_same approach one other e f = let same : Some one ≡ Some other = sym e ∙ f in cc

pub not_slow : (approach : ℕ) (speed : Speed) → speed_of approach ≡ Some speed → speed_of approach ≡ None → ⊥
not_slow approach speed some none = let told : Some speed ≡ None = sym some ∙ none in let z : ◌≡◌ {A = ℕ} 0 1 = cc in omega arith

-- the mark and the approach code are one target and one speed: what holds of them holds of them wherever they are asked for
pub same_asked : (drawing : Drawing) (number approach : ℕ) {t u : Target} {v w : Speed} (P : Target → Speed → Type 0) → Asked drawing number approach t v → Asked drawing number approach u w → P t v → P u w
same_asked drawing number approach {t} {u} {v} {w} P asked asked' p =
    subst (P u) (speed_same approach v w asked.approaches asked'.approaches)
    (subst (λ x. P x v) (located_same drawing number t u asked.located asked'.located) p)

-- what is asked for in order is not refused
pub not_unasked_from_asked : (drawing : Drawing) (number approach size : ℕ) (target : Target) (speed : Speed) → Asked drawing number approach target speed → size ≡ target.held.interval
    → (why : ℕ × List ℕ) → Unasked drawing number approach size why → ⊥
not_unasked_from_asked drawing number approach size target speed asked sized why (absent none) = not_absent_from_located drawing number target asked.located none
not_unasked_from_asked drawing number approach size target speed asked sized why (slow other located none) = not_slow approach speed asked.approaches none
not_unasked_from_asked drawing number approach size target speed asked sized why (missized other v asked' apart) =
    apart (same_asked drawing number approach (λ t v. size ≡ t.held.interval) asked asked' sized)

-- ---- a pass excludes a refusal

pub obeys_from_allowed : (track : Track) (mark : Mark) (E : Emergencies) (D : Services) (j : ℕ) (c w : Code) → Allowed track mark E D j c w → (rule : Rule) → Obeys track mark E D j c w rule
obeys_from_allowed track mark E D j c w (one, (two, (three, (four, (five, done))))) touching = one
obeys_from_allowed track mark E D j c w (one, (two, (three, (four, (five, done))))) ahead = two
obeys_from_allowed track mark E D j c w (one, (two, (three, (four, (five, done))))) service = three
obeys_from_allowed track mark E D j c w (one, (two, (three, (four, (five, done))))) stopping = four
obeys_from_allowed track mark E D j c w (one, (two, (three, (four, (five, done))))) next = five

not_breaks_from_lawful : (track : Track) (mark : Mark) (E : Emergencies) (D : Services) (approach : Speed) (row : List Code) (j : ℕ) (rule : Rule) → Lawful track mark E D approach row → Breaks track mark E D approach row j rule → ⊥
not_breaks_from_lawful track mark E D approach row j rule lawful breaks =
    breaks.broken (obeys_from_allowed track mark E D j (code_at approach row j) (get_or row j Stop) (lawful.obeys j breaks.within) rule)

module _ (drawing : Drawing) (number approach : ℕ) (E : Emergencies) (D : Services) (bytes : List ℕ) where
  passed_size : (passed : Passed drawing number approach E D bytes) → length bytes ≡ passed.target.held.interval
  passed_size passed = sym (length-map bytes read_code) ∙ passed.lawful.size

  pub not_failed_from_passed : (why : ℕ × List ℕ) → Passed drawing number approach E D bytes → Failed drawing number approach E D bytes why → ⊥
  not_failed_from_passed why passed (unasked told due) = not_unasked_from_asked drawing number approach (length bytes) passed.target passed.speed passed.asked (passed_size passed) told due
  not_failed_from_passed why passed (strange target speed asked long other) = other passed.spelt
  not_failed_from_passed why passed (unlawful target speed asked long spelt j rule breaks) =
      not_breaks_from_lawful (track_drawn drawing) (mark_of target) E D speed (codes_of bytes) j rule
      (same_asked drawing number approach (λ t v. Lawful (track_drawn drawing) (mark_of t) E D v (codes_of bytes)) passed.asked asked passed.lawful) breaks

  -- what was worked out passes
  pub passed_from_worked : (letter : StopLetter) (place : ℕ) → Worked drawing number approach E D bytes letter place → Passed drawing number approach E D bytes
  passed_from_worked letter place worked = record {
    target = worked.target;
    speed = worked.speed;
    asked = worked.asked;
    spelt = worked.spelt;
    lawful = worked.highest.lawful;
  }
