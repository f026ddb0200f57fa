use Rattle.std.proofs.Common.{◌≡◌, ◌++◌, ◌∷◌, take}
use Rattle.std.specs.List.{flat_map}
use Rattle.seam_value.specs.Values.{text_of}
use Rattle.seam_report.proofs.values.push_args.Given as goal

abbrev pub invariant-loop-arg : goal.invariant-loop-arg
invariant-loop-arg l = l.out.items ≡ l.initial.out.items ++ flat_map (λ v. 32 ∷ text_of v) (take l.arg-index l.args)
