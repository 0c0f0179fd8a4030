-- The laws of a stretch's value, from what is as bad as its metres. Assumes nothing.
use Rattle.std.proofs.Common.{◌≡◌, ℕ, ◌+◌, ◌-◌, ◌<◌, ◌≤◌, max, ◌↔◌, List, map, ap, ◌∙◌, subst, ⊎_elim, arith}
use mathlib.Core.Path.{fun_ext}
use Rattle.std.specs.List.{range_with_len, ContainsAt}
use Rattle.std.proofs.ByRecursion.{All-weaker, all-has, all_has_itself, has_shuffled}
use Rattle.std.proofs.lemmas.List.Sorted.{IsPermutation-sym}
use Rattle.std.proofs.lemmas.Bool.{cases_lt}
use Rattle.ground.specs.Grading.{Grading, Lawful, AsBad}
use Rattle.ground.specs.Ground.{worst_of, metres, metre_value, stretch_value}
use Rattle.ground.specs.StretchLaws.{SameEntries, Meets, NoneWorse, Bare, Stretches}
use Rattle.ground.specs.declared.entries.Entry.{Entry}
use Rattle.ground.proofs.Bounds.{as_bad_itself, worse_bound, same_bounds}
use Rattle.ground.proofs.Covered.{within_from_covers, covers_from_within}
use Rattle.ground.proofs.Metres.{metre_bound, metre_same, metrewise}

module _ {V : Type 0} {g : Grading V} (laws : Lawful g) (entries : List (Entry V)) where
  stretch_none : (a b : ℕ) → b ≤ a → stretch_value g entries a b ≡ g.undrawn
  unfolding stretch_value worst_of
  stretch_none a b h = ap (λ n. worst_of g (map (metre_value g entries) (range_with_len a n))) (let e : b - a ≡ 0 = omega arith in e)

  stretch_one : (a : ℕ) → stretch_value g entries a (a + 1) ≡ metre_value g entries a
  stretch_one a =
      same_bounds laws _ _
      (λ z. (λ h. (metrewise laws entries z a (a + 1) (omega arith)).0 h a (omega arith) (omega arith), λ h. (metrewise laws entries z a (a + 1) (omega arith)).1 (λ x low high. subst (λ y. AsBad g z (metre_value g entries y)) (let e : a ≡ x = omega arith in e) h)))

  stretch_split : (a b c : ℕ) → a < b → b < c → stretch_value g entries a c ≡ g.worse (stretch_value g entries a b) (stretch_value g entries b c)
  stretch_split a b c h k =
      same_bounds laws _ _
      (λ z.
      let whole = metrewise laws entries z a c (omega arith) in
      let first = metrewise laws entries z a b h in
      let second = metrewise laws entries z b c k in
      let two = worse_bound laws z (stretch_value g entries a b) (stretch_value g entries b c) in (
        λ bad. two.1 (first.1 (λ x low high. whole.0 bad x low (omega arith)), second.1 (λ x low high. whole.0 bad x (omega arith) high)),
        λ bad. whole.1 (λ x low high. ⊎_elim (first.0 (two.0 bad).0 x low) (λ l. second.0 (two.0 bad).1 x l high) (cases_lt x b)),
      ))

  stretch_part : (a b c d : ℕ) → a ≤ b → b < c → c ≤ d → AsBad g (stretch_value g entries a d) (stretch_value g entries b c)
  stretch_part a b c d h k l =
      let whole = stretch_value g entries a d in
      (metrewise laws entries whole b c k).1 (λ x low high. (metrewise laws entries whole a d (omega arith)).0 (as_bad_itself laws whole) x (omega arith) (omega arith))

  entrywise : (z : V) (a b : ℕ) → a < b → AsBad g z (stretch_value g entries a b) ↔ (NoneWorse g entries a b z × (Bare entries a b → AsBad g z g.undrawn))
  entrywise z a b l =
      let at = λ (h : AsBad g z (stretch_value g entries a b)) (x : ℕ) (low : a ≤ x) (high : x < b). (metre_bound laws z entries x).0 ((metrewise laws entries z a b l).0 h x low high) in (
        λ h. (
          All-weaker (ContainsAt entries) (λ entry. Meets a b entry → AsBad g z entry.value)
              (λ entry has meets. all-has _ entries entry (at h (max a entry.from) (omega arith) (omega arith)).0 has (covers_from_within entry (max a entry.from) (omega arith) (omega arith)))
              entries (all_has_itself entries),
          λ bare. (at h bare.0 bare.1.0 bare.1.1).1 bare.1.2,
        ),
        λ h. (metrewise laws entries z a b l).1
            (λ x low high. (metre_bound laws z entries x).1 (
              All-weaker (λ entry. Meets a b entry → AsBad g z entry.value) _ (λ entry worse c. worse (let within = within_from_covers entry x c in omega arith)) entries h.0,
              λ none. h.1 (x, (low, high, none)),
            )),
      )

  same_entries : (others : List (Entry V)) → SameEntries entries others → (a b : ℕ) → stretch_value g others a b ≡ stretch_value g entries a b
  unfolding stretch_value
  same_entries others same a b = ap (λ f. worst_of g (map f (metres a b))) (fun_ext (metre_same laws entries others same))

  pub stretches : Stretches g entries
  stretches = record {
    none = stretch_none;
    one = stretch_one;
    split = stretch_split;
    more = λ a b h. stretch_split a b (b + 1) h (omega arith) ∙ ap (g.worse (stretch_value g entries a b)) (stretch_one b);
    part = stretch_part;
    metrewise = metrewise laws entries;
    entrywise = entrywise;
    same = same_entries;
    reordered = λ others shuffled. same_entries others (λ e. (has_shuffled entries others e shuffled, has_shuffled others entries e (IsPermutation-sym entries others shuffled)));
  }
