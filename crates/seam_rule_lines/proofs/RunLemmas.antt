-- Runs through lines.
use Rattle.std.proofs.Common.{List, [], ◌∷◌, ◌++◌, refl, sym, ap, ◌∙◌, subst, append_assoc, append-nil}
use Rattle.seam_io.specs.Lines.{Line}
use Rattle.seam_rule_lines.specs.Run.{Run}

-- a run is extended by one line
pub run_with_line : {S P : Type 0} (Steps : S → Line → List P → S → Type 0) (s : S) (lines : List Line) (pieces : List P) (t : S)
    (line : Line) (more : List P) (u : S)
    → Run Steps s lines pieces t → Steps t line more u → Run Steps s (lines ++ line ∷ []) (pieces ++ more) u
run_with_line {S} {P} Steps s [] pieces t line more u run step = (
  more,
  [],
  u,
  ap (λ (x : List P). x ++ more) run.0 ∙ sym (append-nil more),
  subst (λ (x : S). Steps x line more u) run.1 step,
  (refl, refl),
)
run_with_line {S} {P} Steps s (first ∷ lines) pieces t line more u run step = (
  run.0,
  run.1 ++ more,
  run.2,
  ap (λ (x : List P). x ++ more) run.3
      ∙ append_assoc run.0 run.1 more,
  run.4,
  run_with_line Steps run.2 lines run.1 t line more u run.5 step,
)
