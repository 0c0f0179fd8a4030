use Rattle.std.proofs.Common.{refl, to_z-of_z, w32, SFits, arith, rules}
use Rattle.sheet.specs.States.{open_heading}
use Rattle.replay.specs.Meaning.{lent_of, five_tables}
use Rattle.replay.specs.declared.calls.Action.TheVariants.{EnterInterval, EnterGradient, EnterRestriction, EnterMark, StrikeGradient, StrikeRestriction, Close}
use Rattle.replay.proofs.Ruling.{acted}
use Rattle.replay.proofs.Entered.{enters_interval, enters_gradient, enters_restriction, enters_mark, strikes_gradient, strikes_restriction}
use Rattle.replay.proofs.Closing.{closes_not}
use Rattle.replay.proofs.open_calls.on_open.Goals as goal

pub returns-in-EnterInterval : goal.returns-in-EnterInterval
returns-in-EnterInterval g c =
    record {
      made = λ E D row. acted g.T.Train.numbers c.args.call (EnterInterval c.in-EnterInterval.number c.in-EnterInterval.length) c.in-EnterInterval.is c.from.ensures
          (enters_interval E D (lent_of c.args.call.lent) (five_tables c.args.intervals.now c.args.gradients.now c.args.restrictions.now c.args.marks.now row) (open_heading c.args.sheet)
          c.in-EnterInterval.number c.in-EnterInterval.length c.min-room.result c.enter_interval-r.result (omega arith) c.enter_interval-r.ensures);
      by = λ book. tt;
    }

pub returns-in-EnterGradient : goal.returns-in-EnterGradient
returns-in-EnterGradient g c =
    let fits : SFits w32 c.in-EnterGradient.faldtal = search rules in
    record {
      made = λ E D row. acted g.T.Train.numbers c.args.call (EnterGradient c.in-EnterGradient.from c.in-EnterGradient.to c.in-EnterGradient.faldtal) c.in-EnterGradient.is c.from-in-EnterGradient.ensures
          (enters_gradient E D (lent_of c.args.call.lent) (five_tables c.args.intervals.now c.args.gradients.now c.args.restrictions.now c.args.marks.now row) (open_heading c.args.sheet)
          c.in-EnterGradient.from c.in-EnterGradient.to c.in-EnterGradient.faldtal c.min-room-in-EnterGradient.result c.enter_gradient-r.result (omega arith) (simp to_z-of_z at c.enter_gradient-r.ensures));
      by = λ book. tt;
    }

pub returns-in-EnterRestriction : goal.returns-in-EnterRestriction
returns-in-EnterRestriction g c =
    record {
      made = λ E D row. acted g.T.Train.numbers c.args.call (EnterRestriction c.in-EnterRestriction.from c.in-EnterRestriction.to c.in-EnterRestriction.kmh) c.in-EnterRestriction.is c.from-in-EnterRestriction.ensures
          (enters_restriction E D (lent_of c.args.call.lent) (five_tables c.args.intervals.now c.args.gradients.now c.args.restrictions.now c.args.marks.now row) (open_heading c.args.sheet)
          c.in-EnterRestriction.from c.in-EnterRestriction.to c.in-EnterRestriction.kmh c.min-room-in-EnterRestriction.result c.enter_restriction-r.result (omega arith) c.enter_restriction-r.ensures);
      by = λ book. tt;
    }

pub returns-in-EnterMark : goal.returns-in-EnterMark
returns-in-EnterMark g c =
    record {
      made = λ E D row. acted g.T.Train.numbers c.args.call (EnterMark c.in-EnterMark.number c.in-EnterMark.position c.in-EnterMark.danger) c.in-EnterMark.is c.from-in-EnterMark.ensures
          (enters_mark E D (lent_of c.args.call.lent) (five_tables c.args.intervals.now c.args.gradients.now c.args.restrictions.now c.args.marks.now row) (open_heading c.args.sheet)
          c.in-EnterMark.number c.in-EnterMark.position c.in-EnterMark.danger c.min-room-in-EnterMark.result c.enter_mark-r.result (omega arith) c.enter_mark-r.ensures);
      by = λ book. tt;
    }

pub returns-in-StrikeGradient : goal.returns-in-StrikeGradient
returns-in-StrikeGradient g c =
    record {
      made = λ E D row. acted g.T.Train.numbers c.args.call (StrikeGradient c.in-StrikeGradient.place) c.in-StrikeGradient.is c.from-in-StrikeGradient.ensures
          (strikes_gradient E D (lent_of c.args.call.lent) (five_tables c.args.intervals.now c.args.gradients.now c.args.restrictions.now c.args.marks.now row) (open_heading c.args.sheet)
          c.in-StrikeGradient.place c.min-room-in-StrikeGradient.result c.strike_gradient-r.result (omega arith) c.strike_gradient-r.ensures);
      by = λ book. tt;
    }

pub returns-in-StrikeRestriction : goal.returns-in-StrikeRestriction
returns-in-StrikeRestriction g c =
    record {
      made = λ E D row. acted g.T.Train.numbers c.args.call (StrikeRestriction c.in-StrikeRestriction.place) c.in-StrikeRestriction.is c.from-in-StrikeRestriction.ensures
          (strikes_restriction E D (lent_of c.args.call.lent) (five_tables c.args.intervals.now c.args.gradients.now c.args.restrictions.now c.args.marks.now row) (open_heading c.args.sheet)
          c.in-StrikeRestriction.place c.min-room-in-StrikeRestriction.result c.strike_restriction-r.result (omega arith) c.strike_restriction-r.ensures);
      by = λ book. tt;
    }

pub returns-in-Err : goal.returns-in-Err
returns-in-Err g c = record {
  made = λ E D row. acted g.T.Train.numbers c.args.call Close c.in-Close.is refl
      (closes_not E D (lent_of c.args.call.lent) (five_tables c.args.intervals.now c.args.gradients.now c.args.restrictions.now c.args.marks.now row)
      c.args.sheet c.in-Err.refused c.part.ensures c.part-in-Close.ensures c.in-Err.ensures);
  by = λ book. tt;
}
