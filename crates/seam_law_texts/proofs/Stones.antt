-- A round in form, and one with the same text that is not.
use Rattle.std.proofs.Common.{◌≡◌, [], arith, refl, lit≤}
use Rattle.std.proofs.lemmas.List.Elements.{All-nil, All-cons}
use Rattle.seam_defs.specs.Types.{AreDefs, IsType}
use Rattle.seam_defs.specs.declared.flags.Part.TheVariants as part
use Rattle.seam_rule_rounds.specs.RoundTexts.{round_text}
use Rattle.seam_law_texts.specs.Forms.{IsBase, IsDone, IsFormed, IsGhost, IsHome, IsTo}
use Rattle.seam_law_texts.specs.Example.{stone, one_type, one_stone, home_of, round_of}

stone_is_type : IsType stone
stone_is_type = record {
  properties = lit≤ tt;
  property_names = refl;
  defaults = All-nil _;
  methods = lit≤ tt;
  method_names = refl;
  bodies = All-nil _;
}

pub type_is_well_formed : AreDefs one_type
type_is_well_formed = record {
  count = lit≤ tt;
  names = refl;
  types = All-cons IsType stone [] stone_is_type (All-nil IsType);
}

pub stone_is_formed : IsFormed one_type one_stone (round_of 0)
stone_is_formed = record {
  lines = record {
    number = omega arith;
    did = All-nil (IsDone one_type one_stone part.Cell);
    dob = All-nil (IsDone one_type one_stone part.Base);
    homes = All-cons (IsHome one_type one_stone) (home_of 0) [] (record {
      entity = omega arith;
      ty = refl;
      cell = omega arith;
      version = omega arith;
      state = record { place = (omega arith, omega arith); values = tt };
    }) (All-nil (IsHome one_type one_stone));
    bases = All-nil (IsBase one_type one_stone);
    ghosts = All-nil IsGhost;
    shown = All-nil (IsTo one_type one_stone);
  };
  bounds = refl;
}

pub same_text : round_text one_type (round_of 0) ≡ round_text one_type (round_of 7)
same_text = refl

pub other_is_not_formed : ¬ (IsFormed one_type one_stone (round_of 7))
other_is_not_formed form =
    let home : IsHome one_type one_stone (home_of 7) = form.lines.homes 0 (home_of 7) (omega arith) in
    let ty : 7 ≡ 0 = home.ty in
    omega (arith, ty)
