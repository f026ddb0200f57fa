-- No text is a header that sets nothing: its settings are the standard ones and its types are the built-in ones.
use Rattle.std.proofs.Common.{◌≡◌, inl, inr, [], Some, refl, arith}
use Rattle.toml.specs.Data.{no_members}
use Rattle.toml.specs.Parse.{parse_document}
use Rattle.toml.proofs.OnLiterals.{toml_on_literals}
use Rattle.seam_defs.specs.Settings.{standard}
use Rattle.seam_defs.specs.Builtin.{builtin}
use Rattle.seam_defs.proofs.WellFormed.{builtin-are-defs}
use Rattle.seam_toml.specs.declared.header.Header.{Header}
use Rattle.seam_toml.specs.declared.faults.Fault.{Fault}
use Rattle.seam_toml.specs.declared.faults.Fault.TheVariants as fault
use Rattle.seam_toml.specs.Header.{Reads}
use Rattle.seam_toml.specs.Faults.{HeaderHas}

nothing_at_fault : (f : Fault) → ¬ (HeaderHas no_members f)
nothing_at_fault fault.NoSuchKey (inl (table, inl strange)) = strange
nothing_at_fault fault.NoSuchKey (inl (table, inr lacking)) = lacking
nothing_at_fault fault.BadType (inl other) = other refl
nothing_at_fault fault.BadFlag (inl none) = none
nothing_at_fault fault.BadDefault (inl none) = none
nothing_at_fault fault.BadBody (inl none) = none
nothing_at_fault fault.TooManyNames (inl none) = none
nothing_at_fault fault.GhostTooNear (inl none) = none
nothing_at_fault f (inr below) = below

nothing_parsed : parse_document [] ≡ Some no_members
unfolding toml_on_literals
nothing_parsed = refl

abbrev pub plain_header : Header
plain_header = record { settings = standard; defs = builtin }

pub nothing_is_read : Reads [] plain_header
nothing_is_read = record {
  short = omega arith;
  ms = no_members;
  document = record { utf8 = ([], (refl, refl)); parsed = nothing_parsed };
  faultless = nothing_at_fault;
  defines = record {
    settings = refl;
    legal = record {
      in_range = record {
        some_size = omega arith;
        size = omega arith;
        view_radius = omega arith;
        view_hysteresis = omega arith;
        offload_hysteresis = omega arith;
        ghost_distance = omega arith;
        ghost_hysteresis = omega arith;
        balance_shift = omega arith;
        some_bases = omega arith;
        bases = omega arith;
      };
      reach = omega arith;
    };
    types = refl;
    sound = builtin-are-defs;
  };
}
