use Rattle.std.proofs.Common.{◌≡◌, ◌↔◌, refl, Bool, true, not, ◌||◌, List, [], ◌∷◌, length, inl, inr, rules, tests, arith}
use Rattle.std.specs.List.{zip, list_all}
use Rattle.std.proofs.lemmas.Bool.{cases_Bool}
use Rattle.std.proofs.lemmas.Iterator.{YieldsList-from_slice, YieldsList-from_zip}
use Rattle.std.proofs.lemmas.Iterator.Consumers.{YieldsList-at, YieldsList-from_first}
use Rattle.std.proofs.lemmas.Iterator.Search.{all_from_yields_List}
use Rattle.seam_value.specs.declared.values.Value.{Value}
use Rattle.seam_defs.specs.declared.flags.Group.{Group}
use Rattle.seam_defs.specs.declared.types.Property.{Property}
use Rattle.seam_defs.specs.Groups.{in_group, held_by, shown_by}
use Rattle.seam_defs.specs.Deeds.{properties_of}
use Rattle.seam_defs.specs.Remaining.{properties_left, values_left, shown_of}
use Rattle.seam_defs.specs.Tests.{same_value}
use Rattle.seam_defs.proofs.NameSearch.{and-left, and-right}
use Rattle.seam_defs.proofs.TestLemmas.{value-Decides}
use Rattle.seam_defs.proofs.deeds.are_same_by_flags.Goals as goal

-- whether a property's values are the same, if it is shown
abbrev is_same : Group → Property × (Value × Value) → Bool
is_same g e = not (in_group e.0.flag g) || same_value e.1.0 e.1.1

all-same : (g : Group) (ps : List Property) (vs ws : List Value) → length vs ≡ length ws →
    (list_all (is_same g) (zip ps (zip vs ws)) ≡ true) ↔ (shown_of g ps vs ≡ shown_of g ps ws)
all-same g [] vs ws long = ((λ _. refl), (λ _. refl))
all-same g (p ∷ ps) [] [] long = ((λ _. refl), (λ _. refl))
all-same g (p ∷ ps) [] (w ∷ ws) long = absurd (omega arith)
all-same g (p ∷ ps) (v ∷ vs) [] long = absurd (omega arith)
all-same g (p ∷ ps) (v ∷ vs) (w ∷ ws) long =
    let rest = all-same g ps vs ws (omega arith) in
    let one = value-Decides v w in
    let others = list_all (is_same g) (zip ps (zip vs ws)) in
    elim (cases_Bool (in_group p.flag g)) [
      | inl seen ↦ rw seen (
        (λ all. let first : v ≡ w = one.0 (and-left (same_value v w) others all) in
            let later : shown_of g ps vs ≡ shown_of g ps ws = rest.0 (and-right (same_value v w) others all) in cc),
        (λ same. let first : same_value v w ≡ true = one.1 cc in let later : others ≡ true = rest.1 cc in rw (first, later) refl),
      )
      | inr hidden ↦ rw hidden rest
    ]

pub returns : goal.returns
returns c =
    let ps = properties_of c.args.properties.now (held_by c.args.part) in
    let g = shown_by c.args.part in
    let answer =
    all_from_yields_List (is_same g) c.all.new.self _ c.all.result c.all.ensures.ran
    (YieldsList-from_zip
    (YieldsList-at c.zip-2.ensures.first (YieldsList-from_first (λ p. p.now) properties_left ps (rw c.held.ensures at c.new.ensures)))
    (YieldsList-at c.zip-2.ensures.second
    (YieldsList-from_zip
    (YieldsList-at c.zip.ensures.first (YieldsList-from_first (λ v. v.now) values_left c.args.old.now c.values.ensures.values))
    (YieldsList-from_slice c.args.new.now cc))))
    (λ x r q k. search (rules, tests)) in
    rw (← answer) at (all-same g ps c.args.old.now c.args.new.now c.requires)
