use Rattle.std.proofs.Common.{rules, ◌≡◌, ◌≢◌, ◌∙◌, ◌-◌, ℕ, List, ◌∷◌, ap, arith, length, take, drop}
use Rattle.std.specs.Prelude.{slice_index}
use Rattle.seam_words.proofs.Pieces.{cons_is, plain_piece, after_backslash}
use Rattle.seam_words.proofs.splitting.after_piece.Goals as goal

pub returns-in-92-clause-piece : goal.returns-in-92-clause-piece
returns-in-92-clause-piece c =
    let first : slice_index c.args.bytes.now 0 ≡ 92 = search rules in
    let inner : List ℕ = take (length c.args.bytes.now - 1) (drop 1 c.args.bytes.now) in
    after_backslash c.args.bytes.now inner (cons_is c.args.bytes.now (omega arith) ∙ ap (λ (b : ℕ). b ∷ inner) first) c.after_escaped.result
    c.after_escaped.ensures

pub returns-in-len1-up-clause-piece : goal.returns-in-len1-up-clause-piece
returns-in-len1-up-clause-piece c =
    let first : slice_index c.args.bytes.now 0 ≢ 92 = search rules in
    plain_piece c.args.bytes.now (take (length c.args.bytes.now - 1) (drop 1 c.args.bytes.now)) (cons_is c.args.bytes.now (omega arith))
    c.requires first
