-- A train over a lawful row stops short of the danger point and keeps to every restriction. Assumes nothing.
--     On track mark .. journey    the train is on its way as the row lets it
--     on_set_off, on_moves        it is once it has set off, and stays so
--     on_safe                     while it is, it is safe
use Rattle.std.proofs.Common.{◌≡◌, ℕ, suc, ◌+◌, ◌-◌, ◌<◌, ◌≤◌, true, false, List, sym, ap, ◌∙◌, subst, inl, inr, zero-le, arith}
use native.Mathlib.Decide.{dec_le, dec_lt, ℕ_discrete}
use borrow.Author.Tests.{both_ways}
use Rattle.std.specs.List.{ContainsAt}
use Rattle.std.proofs.ByRecursion.{All-weaker, all-has, all_has_itself}
use Rattle.std.proofs.lemmas.Bool.Decides.{nat_tests}
use Rattle.codes.specs.declared.speeds.Speed.{Speed}
use Rattle.codes.specs.declared.speeds.Code.{Code}
use Rattle.codes.specs.declared.speeds.Code.TheVariants.{Stop, Go}
use Rattle.codes.specs.declared.gradients.Class.{Class}
use Rattle.codes.specs.Speeds.{kmh, byte}
use Rattle.ground.specs.declared.entries.Entry.{Entry}
use Rattle.laws.specs.Books.{Emergencies, Services, Distances, Laws}
use Rattle.rules.specs.Tracks.{Track, Mark, begin_of, end_of, length_of}
use Rattle.rules.specs.Rules.{train_length, Down, Halts, class_from, Fits, Next, code_at, Lawful}
use Rattle.trains.specs.Braking.{Numbers, Hears}
use Rattle.driving.specs.Journeys.{Journey, stands, class_behind, Differs, SetsOff, Arrives, Moves}
use Rattle.driving.specs.Journeys.Arrives.{hears_code, hears_none}
use Rattle.driving.specs.Safety.{Drawn, Binds, Safe, Run, RunsAreSafe}
use Rattle.driving.specs.Safety.Run.{set_off, further}
use Rattle.driving.proofs.Decided.{same_code}
use Rattle.driving.proofs.Places.{end_more, end_first, end_rises, begin_end, end_strict, end_start, end_position, Ground, some_ground}
use Rattle.driving.proofs.Riding.{Riding, riding_heard, riding_rolled}

-- a train that moves does not stand with stop told
standing : (journey : Journey) → journey.told ≡ Stop → journey.train.pace ≡ 0 → stands journey ≡ true
standing journey told still = let zero : byte journey.told ≡ 0 = ap byte told in grind (arith, nat_tests)

moves_on : (journey : Journey) → stands journey ≡ false → journey.told ≡ Stop → journey.train.pace ≡ 0 → ⊥
moves_on journey moves told still = both_ways (stands journey) moves (standing journey told still)

-- a speed that stops at a point is down to stop there
down_from_halts : (E : Emergencies) (k : Class) (c : Code) (metres : ℕ) → Halts (λ v. E k v Stop) c metres → Down E k c Stop metres
down_from_halts E k Stop metres halts = tt
down_from_halts E k (Go v) metres halts = inr halts

down_low : (E : Emergencies) (k : Class) (c to : Code) (metres : ℕ) → byte c ≤ byte to → Down E k c to metres
down_low E k Stop to metres low = tt
down_low E k (Go v) to metres low = inl low

module _ (track : Track) (mark : Mark) (drawn : Drawn track mark) (E : Emergencies) (D : Services) (distances : Distances E D) (laws : Laws E D)
    (approach : Speed) (row : List Code) (lawful : Lawful track mark E D approach row) where
  abbrev code : ℕ → Code
  code j = code_at approach row j

  abbrev Rides : ℕ → ℕ → Numbers → Type 0
  Rides k x n = Riding E D distances laws track mark code k x n

  fits : (j : ℕ) → j ≤ mark.interval → Fits track mark E D j (code j)
  fits j within = let obeys = lawful.obeys j within in (obeys.0, obeys.1.0, obeys.1.1.0, obeys.1.1.1.0)

  next : (j : ℕ) → j ≤ mark.interval → Next track mark E D j (code j) (code (suc j))
  next j within = (lawful.obeys j within).1.1.1.1.0

  module _ (g : ℕ) (ground : Ground track mark E D g) where
    -- Position x lies in interval j + 1, or beyond it if it is the mark's; the code told where interval k + 1 begins still holds there.
    record Place (k j x : ℕ) : Type 0 where
      order : k ≤ j
      inside : j < mark.interval
      begun : end_of track j ≤ x
      within : suc j < mark.interval → x < end_of track (suc j)
      same : (i : ℕ) → k ≤ i → i ≤ j → code (suc i) ≡ code (suc k)
      early : k ≤ g
      reached : end_of track g < x → k ≡ g
      short : x ≤ mark.danger

    record Way (journey : Journey) : Type 0 where
      k : ℕ
      j : ℕ
      place : Place k j journey.position
      told : journey.told ≡ code (suc k)
      riding : Rides k journey.position journey.train

    ground_code : (i : ℕ) → g < i → i ≤ mark.interval → code i ≡ Stop
    ground_code i low high = ground.inside.stops i low high (code i) (fits i high)

    g_inside : g < mark.interval
    g_inside = ground.inside.last

    g_danger : end_of track g < mark.danger
    g_danger = omega (arith, end_position track mark drawn g g_inside, drawn.danger_least)

    -- at the end of the interval at whose beginning it heard its code, the train keeps to it
    keeps_code : (k x : ℕ) (n : Numbers) → Rides k x n → k < g → end_of track (suc k) ≤ x → n.pace ≤ byte (code (suc k))
    keeps_code k x n ride before past =
        let down : Down E (class_from track mark E D k (end_of track (suc k))) (code k) (code (suc k)) (length_of track (suc k)) =
        next k (omega (arith, g_inside)) (λ i inside. omega (arith, ground.first i inside)) in
        let metres : length_of track (suc k) ≡ end_of track (suc k) - end_of track k = omega (arith, end_more track k) in
        ride.braked (end_of track (suc k)) (code (suc k)) (end_rises track k (suc k) (omega arith)) past (omega arith)
        (subst (Down E (class_from track mark E D k (end_of track (suc k))) (code k) (code (suc k))) metres down)

    -- the train has stopped at the danger point
    stops_there : (x : ℕ) (n : Numbers) → Rides g x n → mark.danger ≤ x → n.pace ≡ 0
    stops_there x n ride past =
        let told : byte (code (suc g)) ≡ 0 = ap byte (ground_code (suc g) (omega arith) g_inside) in
        let still = ride.braked mark.danger Stop (omega (arith, g_danger)) past (omega arith) (down_from_halts E _ (code g) _ (fits g (omega (arith, g_inside))).3) in
        omega arith

    -- a train that moves is short of the danger point
    moving_short : (journey : Journey) → Way journey → stands journey ≡ false → journey.position < mark.danger
    moving_short journey way moves =
        elim (dec_lt journey.position mark.danger) [
          | yes short ↦ short
          | no past ↦
              let e : way.k ≡ g = way.place.reached (omega (arith, g_danger)) in
              let ride : Rides g journey.position journey.train = subst (λ k. Rides k journey.position journey.train) e way.riding in
              absurd (moves_on journey moves (way.told ∙ ap (λ k. code (suc k)) e ∙ ground_code (suc g) (omega arith) g_inside) (stops_there _ _ ride (omega arith)))
        ]

    -- where the stop ground begins, a train that moves has just heard stop
    moving_reached : (journey : Journey) (way : Way journey) → stands journey ≡ false → end_of track g < journey.position + 1 → way.k ≡ g
    moving_reached journey way moves past =
        let k = way.k in
        let j = way.j in
        let p = way.place in
        elim (ℕ_discrete k g) [
          | yes e ↦ e
          | no other ↦ elim (dec_lt (end_of track g) journey.position) [
            | yes behind ↦ p.reached behind
            | no here ↦
                let low : j < g → ⊥ = λ lt. omega (arith, p.within (omega (arith, g_inside)), end_rises track (suc j) g lt) in
                let high : g < j → ⊥ = λ lt. omega (arith, end_strict track mark drawn g j lt (omega (arith, p.inside, drawn.stands.last)), p.begun) in
                let stop : code (suc k) ≡ Stop = sym (p.same g p.early (omega arith)) ∙ ground_code (suc g) (omega arith) g_inside in
                let none : byte (code (suc k)) ≡ 0 = ap byte stop in
                let slow = keeps_code k _ _ way.riding (omega (arith, p.early)) (omega (arith, end_rises track (suc k) g (omega (arith, p.early)))) in
                absurd (moves_on journey moves (way.told ∙ stop) (omega arith))
          ]
        ]

    -- the train keeps to a restriction that binds its head
    keeps_slow : (journey : Journey) → Way journey → (x : Entry Speed) → ContainsAt track.restrictions x → Binds x journey.position → journey.train.pace ≤ kmh x.value
    keeps_slow journey way x is (low, high) =
        elim (dec_lt x.from mark.danger) [
          | yes ahead ↦ let from = binds ahead in way.riding.braked from.0 (Go x.value) from.1 from.2 (here ahead) from.3
          | no behind ↦
              let e : k ≡ g = p.reached (omega (arith, g_danger)) in
              let ride : Rides g journey.position journey.train = subst (λ k. Rides k journey.position journey.train) e way.riding in
              omega (arith, stops_there _ _ ride (omega arith))
        ]
      where
        k : ℕ
        k = way.k

        j : ℕ
        j = way.j

        p : Place k j journey.position
        p = way.place

        k_inside : k ≤ mark.interval
        k_inside = omega (arith, p.order, p.inside)

        touching : (i : ℕ) → i ≤ mark.interval → x.from < mark.danger → x.from < end_of track i → begin_of track i < x.to + train_length → byte (code i) ≤ kmh x.value
        touching i within = all-has _ track.restrictions x (fits i within).0 is

        ahead_down : (i : ℕ) → i ≤ mark.interval → x.from < mark.danger → end_of track i ≤ x.from
            → Down E (class_from track mark E D i x.from) (code i) (Go x.value) (x.from - end_of track i)
        ahead_down i within = all-has _ track.restrictions x (fits i within).1 is

        told_last : byte (code (suc j)) ≡ byte (code (suc k))
        told_last = ap byte (p.same j p.order (omega arith))

        -- the code told last is at most the restriction's speed
        here : x.from < mark.danger → byte (code (suc k)) ≤ kmh x.value
        here ahead =
            elim (dec_lt j g) [
              | yes before ↦
                  let inside : journey.position < end_of track (suc j) = p.within (omega (arith, g_inside)) in
                  omega (arith, touching (suc j) p.inside ahead (omega arith) (omega (arith, p.begun)), told_last)
              | no within ↦
                  let stop : byte (code (suc j)) ≡ 0 = ap byte (ground_code (suc j) (omega arith) p.inside) in
                  omega (arith, told_last)
            ]

        -- from some position that the head has reached, the train is down to it by the book
        binds : x.from < mark.danger
            → (y : ℕ) × (end_of track k ≤ y) × (y ≤ journey.position) × Down E (class_from track mark E D k y) (code k) (Go x.value) (y - end_of track k)
        binds ahead =
            let past : end_of track k ≤ journey.position = omega (arith, p.begun, end_rises track k j p.order) in
            elim (dec_lt x.from (end_of track k)) [
              | yes lt ↦ (end_of track k, omega arith, past, down_low E _ (code k) (Go x.value) _ (touching k k_inside ahead lt (omega (arith, begin_end track k))))
              | no ge ↦ (x.from, omega arith, low, ahead_down k k_inside ahead (omega arith))
            ]

    way_safe : (journey : Journey) → Way journey → Safe track mark journey
    way_safe journey way = record {
      short = way.place.short;
      slow = All-weaker (ContainsAt track.restrictions) (λ x. Binds x journey.position → journey.train.pace ≤ kmh x.value)
          (keeps_slow journey way) track.restrictions (all_has_itself track.restrictions);
    }

    -- where interval i + 1 begins at the head, the train that hears its code came with no more than that of interval i
    way_heard : (m : Numbers) (journey : Journey) (i : ℕ) → i < mark.interval → i ≤ g → end_of track i ≡ journey.position → m.pace ≤ byte (code i)
        → journey.told ≡ code (suc i) → Hears E (code (suc i)) (class_behind track journey.position) m journey.train → Way journey
    way_heard m journey i inside early at slow told hears = record {
      k = i;
      j = i;
      place = record {
        order = omega arith;
        inside = inside;
        begun = omega arith;
        within = λ more. omega (arith, end_strict track mark drawn i (suc i) (omega arith) (omega (arith, drawn.stands.last)));
        same = λ n low high. ap (λ l. code (suc l)) (let e : n ≡ i = omega arith in e);
        early = early;
        reached = λ past. absurd (omega (arith, end_rises track i g early));
        short = omega (arith, end_position track mark drawn i inside, drawn.danger_least);
      };
      told = told;
      riding = riding_heard E D distances laws track mark code i journey.position m journey.train at slow hears;
    }

    module _ (before after : Journey) (way : Way before) (moves : stands before ≡ false) (ahead : after.position ≡ before.position + 1) (rolled : Numbers)
        (ride : Rides way.k after.position rolled) where
      abbrev k : ℕ
      k = way.k

      abbrev j : ℕ
      j = way.j

      p : Place k j before.position
      p = way.place

      -- a metre on, where the train hears a new code
      way_new : (i : ℕ) → Differs track mark row before.told after.position i → after.told ≡ code (suc i)
          → Hears E (code (suc i)) (class_behind track after.position) rolled after.train → Way after
      way_new i differs told hears = way_heard rolled after i inside early differs.begins slow told hears
        where
          inside : i < mark.interval
          inside = differs.within

          at : end_of track i ≡ before.position + 1
          at = differs.begins ∙ ahead

          after_j : i ≤ j → ⊥
          after_j le = omega (arith, p.begun, end_rises track i j le)

          next_j : suc j < i → ⊥
          next_j lt = omega (arith, p.within (omega arith), end_strict track mark drawn (suc j) i lt (omega (arith, drawn.stands.last)))

          is_next : i ≡ suc j
          is_next = omega (arith, after_j, next_j)

          told_before : before.told ≡ code i
          told_before = way.told ∙ sym (p.same j p.order (omega arith)) ∙ ap code (sym is_next)

          early : i ≤ g
          early =
              elim (dec_le i g) [
                | yes le ↦ le
                | no gt ↦ absurd (differs.other (ground_code (suc i) (omega arith) inside ∙ sym (told_before ∙ ground_code i (omega arith) (omega arith))))
              ]

          same_told : byte (code (suc k)) ≡ byte (code i)
          same_told = ap byte (sym way.told ∙ told_before)

          slow : rolled.pace ≤ byte (code i)
          slow =
              let past : end_of track (suc k) ≤ after.position = omega (arith, at, end_rises track (suc k) i (omega (arith, p.order, is_next))) in
              omega (arith, keeps_code k after.position rolled ride (omega (arith, p.order, is_next, early)) past, same_told)

      short : after.position ≤ mark.danger
      short = omega (arith, moving_short before way moves)

      reached : end_of track g < after.position → k ≡ g
      reached past = moving_reached before way moves (omega arith)

      -- a metre on, where the code told last still holds
      way_same : ((i : ℕ) → Differs track mark row before.told after.position i → ⊥) → after.told ≡ before.told → after.train ≡ rolled → Way after
      way_same none told train =
          elim (dec_lt (suc j) mark.interval) [
            | no last ↦ stay (λ more. absurd (last more))
            | yes more ↦ elim (ℕ_discrete (end_of track (suc j)) after.position) [
              | no apart ↦ stay (λ more. omega (arith, p.within more))
              | yes begins ↦ record {
                k = k;
                j = suc j;
                place = record {
                  order = omega (arith, p.order);
                  inside = more;
                  begun = omega arith;
                  within = λ more. omega (arith, end_strict track mark drawn (suc j) (suc (suc j)) (omega arith) (omega (arith, drawn.stands.last)));
                  same = λ i low high. elim (ℕ_discrete i (suc j)) [
                    | yes e ↦ ap (λ n. code (suc n)) e ∙ entered more begins ∙ way.told
                    | no other ↦ p.same i low (omega arith)
                  ];
                  early = p.early;
                  reached = reached;
                  short = short;
                };
                told = told ∙ way.told;
                riding = still;
              }
            ]
          ]
        where
          still : Rides k after.position after.train
          still = subst (Rides k after.position) (sym train) ride

          -- the code of an interval that begins here is the one told last
          entered : suc j < mark.interval → end_of track (suc j) ≡ after.position → code (suc (suc j)) ≡ before.told
          entered within begins =
              elim (same_code (code (suc (suc j))) before.told) [
                | yes e ↦ e
                | no other ↦ absurd (none (suc j) (record { within = within; begins = begins; other = other }))
              ]

          stay : (suc j < mark.interval → after.position < end_of track (suc j)) → Way after
          stay within = record {
            k = k;
            j = j;
            place = record {
              order = p.order;
              inside = p.inside;
              begun = omega (arith, p.begun);
              within = within;
              same = p.same;
              early = p.early;
              reached = reached;
              short = short;
            };
            told = told ∙ way.told;
            riding = still;
          }

      way_arrived : (heard : List ℕ) → Arrives track mark E row before.told rolled after heard → Way after
      way_arrived heard (hears_code i differs first told hears) = way_new i differs told hears
      way_arrived heard (hears_none none told train) = way_same none told train

    way_moves : (before after : Journey) (paces : List ℕ) → Way before → stands before ≡ false → Moves track mark E row before after paces → Way after
    way_moves before after paces way moves step = way_arrived before after way moves ahead step.rolled ride step.heard step.arrives
      where
        p : Place way.k way.j before.position
        p = way.place

        ahead : after.position ≡ before.position + 1
        ahead = omega (arith, step.position, moving_short before way moves, drawn.danger_most)

        ride : Rides way.k after.position step.rolled
        ride = subst (λ x. Rides way.k x step.rolled) (sym ahead)
            (riding_rolled E D distances laws track mark code way.k before.position before.train step.rolled (omega (arith, end_start track mark drawn way.k))
            (omega (arith, p.begun, end_rises track way.k way.j p.order)) way.riding step.rolls)

    way_set_off : (train : Numbers) (journey : Journey) (paces : List ℕ) → train.pace ≤ kmh approach → SetsOff track mark E row train journey paces → Way journey
    way_set_off train journey paces slow off =
        let at : end_of track 0 ≡ journey.position = end_first track ∙ sym off.position in
        let hears = subst (λ x. Hears E (code 1) (class_behind track x) train journey.train) (sym off.position) off.hears in
        way_heard train journey 0 drawn.stands.first zero-le at slow off.told hears

  -- a train on its way over the row, before or in the stop ground
  pub record On (journey : Journey) : Type 0 where
    g : ℕ
    ground : Ground track mark E D g
    way : Way g ground journey

  pub on_set_off : (train : Numbers) (journey : Journey) (paces : List ℕ) → SetsOff track mark E row train journey paces → train.pace ≤ kmh approach → On journey
  on_set_off train journey paces off slow =
      let first = some_ground track mark E D distances drawn.stands in
      record { g = first.0; ground = first.1; way = way_set_off first.0 first.1 train journey paces slow off }

  pub on_moves : (before after : Journey) (paces : List ℕ) → On before → stands before ≡ false → Moves track mark E row before after paces → On after
  on_moves before after paces on moves step =
      record { g = on.g; ground = on.ground; way = way_moves on.g on.ground before after paces on.way moves step }

  pub on_safe : (journey : Journey) → On journey → Safe track mark journey
  on_safe journey on = way_safe on.g on.ground journey on.way

  on_run : (train : Numbers) → train.pace ≤ kmh approach → {journey : Journey} → Run track mark E row train journey → On journey
  on_run train slow (set_off {journey} {paces} off) = on_set_off train journey paces off slow
  on_run train slow (further {before} {after} {paces} run moves step) = on_moves before after paces (on_run train slow run) moves step

pub runs_are_safe : (E : Emergencies) (D : Services) → Distances E D → Laws E D → RunsAreSafe E D
runs_are_safe E D distances laws track mark drawn approach row lawful train slow journey run =
    on_safe track mark drawn E D distances laws approach row lawful journey (on_run track mark drawn E D distances laws approach row lawful train slow run)
