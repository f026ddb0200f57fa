-- The lines of a client, one after another.
use Rattle.std.proofs.Common.{◌≡◌, ℕ, ◌+◌, ◌<◌, List, [], ◌∷◌, ◌++◌, map, length, take, get_or, sym, ap, ◌∙◌, append-nil, append_assoc}
use Rattle.std.proofs.Common.{add-one}
use Rattle.std.specs.List.{flat_map}
use Rattle.std.proofs.Math.Seq.{take-suc}
use Rattle.std.proofs.lemmas.List.{map-append}
use Rattle.std.proofs.lemmas.List.Concat.{flat_map-append}
use Rattle.seam_node_steps.specs.Prelude.{TypeDef, Create, Line}
use Rattle.seam_rule_rounds.specs.Prelude.{ClientLine, client_text}
use Rattle.seam_world_text.specs.RoundParts.{lines_text}

abbrev pub line_to : Create → Line → ClientLine
line_to m l = record { entity = m.entity; ty = m.ty; line = l }

module _ (defs : List TypeDef) (m : Create) where
  with_last : (xs : List Line) (l : Line) → lines_text defs m (xs ++ l ∷ []) ≡ lines_text defs m xs ++ client_text defs (line_to m l)
  with_last xs l =
      ap (flat_map (client_text defs)) (map-append (line_to m) xs (l ∷ []))
      ∙ flat_map-append (client_text defs) (map (line_to m) xs) (line_to m l ∷ [])
      ∙ ap (λ t. lines_text defs m xs ++ t) (append-nil (client_text defs (line_to m l)))

  -- one more line was appended
  pub one_more_line : (o before after : List ℕ) (ls : List Line) (i : ℕ) (l : Line) → i < length ls → get_or ls i l ≡ l →
      before ≡ o ++ lines_text defs m (take i ls) → after ≡ before ++ client_text defs (line_to m l) →
      after ≡ o ++ lines_text defs m (take (i + 1) ls)
  one_more_line o before after ls i l lt here was is =
      let more : take (i + 1) ls ≡ take i ls ++ get_or ls i l ∷ [] = rw add-one (take-suc ls i l lt) in
      is ∙ ap (λ t. t ++ client_text defs (line_to m l)) was ∙ append_assoc o (lines_text defs m (take i ls))
      (client_text defs (line_to m l))
      ∙ ap (λ t. o ++ t) (sym (ap (lines_text defs m) (more ∙ ap (λ x. take i ls ++ x ∷ []) here) ∙ with_last (take i ls) l))
