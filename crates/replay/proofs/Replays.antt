-- The loop of a replay: the run of the calls made so far, and the law over all of it. Assumes nothing.
use Rattle.std.proofs.Common.{◌≡◌, ℕ, List, [], ◌∷◌, ◌++◌, map, length, None, vec_items, sym, ap, ◌∙◌, subst, append_assoc}
use Rattle.std.proofs.lemmas.List.{map_push, append-nil, nil_from_length}
use Rattle.laws.specs.Books.{Emergencies, Services, Distances, Laws}
use Rattle.trains.specs.Braking.{Numbers}
use Rattle.sheet.specs.Sheets.{Heading, Tables, Sheet, drawing, blank_heading}
use Rattle.sheet.specs.Faults.{start_fault}
use Rattle.sheet.specs.States.{open_heading}
use Rattle.sheet.specs.declared.open.OpenSheet.{OpenSheet}
use Rattle.runs.specs.Orders.{Outcome}
use Rattle.runs.specs.Orders as runs
use Rattle.runs.specs.Runs.{Run, ended, then}
use Rattle.runs.proofs.Kept.{law_over_runs}
use Rattle.replay.specs.Meaning.{call_of, outcome_of, open_sheet, sheet_of, Performed}
use Rattle.replay.specs.Replays.{ReplayedTo}
use Rattle.replay.specs.declared.replayed.Replayed.{Replayed}
use Rattle.replay.specs.declared.calls.Call.{Call}
use Rattle.replay.specs.declared.answers.Answer.{Answer}

-- one call more at the end of a run
run_more : {E : Emergencies} {D : Services} {sheet between after : Sheet} {calls : List runs.Call} {call : runs.Call} {outcomes : List Outcome} {outcome : Outcome} {paces : List ℕ}
    → Run E D sheet calls outcomes paces between → (p : Performed E D between call outcome after)
    → Run E D sheet (calls ++ call ∷ []) (outcomes ++ outcome ∷ []) (paces ++ p.paces) after
run_more ended p = then p.paces p.does ended (sym (append-nil p.paces))
run_more (then {later = later} told does run split) p =
    then told does (run_more run p) (ap (λ xs. xs ++ p.paces) split ∙ append_assoc told later p.paces)

-- the calls made so far, their answers, and what stands
pub record Sofar {T : Type 0} (E : Emergencies) (D : Services) (numbers : T → Numbers) (start : Sheet) (calls : List (Call T)) (answers : List (Answer T)) (now : Sheet) : Type 0 where
  pub paces : List ℕ
  pub runs : Run E D start (map (call_of numbers) calls) (map (outcome_of numbers) answers) paces now

module _ {T : Type 0} {E : Emergencies} {D : Services} {numbers : T → Numbers} {start : Sheet} where
  pub sofar_none : Sofar E D numbers start [] [] start
  sofar_none = record { paces = []; runs = ended }

  pub sofar_more : {between after : Sheet} (calls : List (Call T)) (answers more : List (Answer T)) (call : Call T) (answer : Answer T)
      → Sofar E D numbers start calls answers between → Performed E D between (call_of numbers call) (outcome_of numbers answer) after → more ≡ answers ++ answer ∷ []
      → Sofar E D numbers start (calls ++ call ∷ []) more after
  sofar_more {after = after} calls answers more call answer h p e = record {
    paces = h.paces ++ p.paces;
    runs = subst (λ (xs : List Outcome). Run E D start (map (call_of numbers) (calls ++ call ∷ [])) xs (h.paces ++ p.paces) after)
        (sym (ap (map (outcome_of numbers)) e ∙ map_push (outcome_of numbers) answers answer))
        (subst (λ (xs : List runs.Call). Run E D start xs (map (outcome_of numbers) answers ++ outcome_of numbers answer ∷ []) (h.paces ++ p.paces) after)
        (sym (map_push (call_of numbers) calls call)) (run_more h.runs p));
  }

-- the whole list, and the law over it
pub replayed : {B T : Type 0} (E : Emergencies) (D : Services) → Distances E D → Laws E D → (numbers : T → Numbers) (start : ℕ) (tables after : Tables)
    (s : OpenSheet) (calls made left : List (Call T)) (o : Replayed B T)
    → start_fault start ≡ None → open_heading s ≡ blank_heading start → made ++ left ≡ calls → length left ≡ 0
    → Sofar E D numbers (open_sheet s tables) made (vec_items o.answers) (sheet_of numbers o.sheet after)
    → ReplayedTo E D numbers start tables (map (call_of numbers) calls) o after
replayed {T = T} E D distances laws numbers start tables after s calls made left o starts blanks joins none h =
    let all : made ≡ calls = sym (append-nil made) ∙ ap (λ xs. made ++ xs) (sym (nil_from_length left none)) ∙ joins in
    let run = subst (λ (before : Sheet). Run E D before (map (call_of numbers) calls) (map (outcome_of numbers) (vec_items o.answers)) h.paces (sheet_of numbers o.sheet after))
    (ap (λ (x : Heading). record { heading = x; tables = tables; phase = drawing }) blanks)
    (subst (λ (xs : List (Call T)). Run E D (open_sheet s tables) (map (call_of numbers) xs) (map (outcome_of numbers) (vec_items o.answers)) h.paces (sheet_of numbers o.sheet after)) all h.runs) in
    record { starts = starts; paces = h.paces; runs = run; law = law_over_runs E D distances laws start tables starts _ _ _ _ run }
