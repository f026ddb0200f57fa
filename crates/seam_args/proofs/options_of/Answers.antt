use Rattle.std.proofs.Common.{◌≡◌, ◌∙◌, inl, inr, ap, sym, subst, refl, ℕ, Option, Some, None, arith, codes, option_map}
use Rattle.std.specs.Prelude.{IfSome, unwrap_or}
use Rattle.std.specs.Str.Parse.{ParsesUnsigned, ExplainsUnsignedError, HasUnsignedDigitsIfOk}
use Rattle.clap.specs.Words.{found_of, one_of, rows_of}
use Rattle.seam_args.specs.declared.TheConstants.{MOST_WORKERS, MOST_TURNS, LONGEST_STORM}
use Rattle.seam_args.specs.Words.{IsUpTo, number_of}
use Rattle.seam_args.proofs.Numbers.{number_is_read, no_number_is_read}
use Rattle.seam_args.proofs.options_of.Goals as goal

pub returns : goal.returns
returns c =
    let found = found_of c.args.matches.now in
    let workers = number_is_read _ (λ bs r. ParsesUnsigned 32 10 bs r × ExplainsUnsignedError 10 bs r × HasUnsignedDigitsIfOk bs r)
    found (codes "workers") MOST_WORKERS c.get_one.result c.requires.workers (omega arith) (λ u x g. g.0) c.get_one.ensures.value in
    let turns = number_is_read _ (λ bs r. ParsesUnsigned 32 10 bs r × ExplainsUnsignedError 10 bs r × HasUnsignedDigitsIfOk bs r)
    found (codes "turns") MOST_TURNS c.get_one-2.result c.requires.turns (omega arith) (λ u x g. g.0) c.get_one-2.ensures.value in
    let storm : (option_map number_of (one_of (codes "storm") (rows_of found)) ≡ c.get_one-3.result)
    × IfSome c.get_one-3.result (IsUpTo LONGEST_STORM) = elim c.requires.storm [
      | inl none ↦
          let is : c.get_one-3.result ≡ None = c.get_one-3.ensures.none none in
          (no_number_is_read found (codes "storm") none ∙ sym is, subst (λ (o : Option ℕ). IfSome o (IsUpTo LONGEST_STORM)) (sym is) tt)
      | inr some ↦
          let got = number_is_read _ (λ bs r. ParsesUnsigned 32 10 bs r × ExplainsUnsignedError 10 bs r × HasUnsignedDigitsIfOk bs r)
          found (codes "storm") LONGEST_STORM c.get_one-3.result some (omega arith) (λ u x g. g.0) c.get_one-3.ensures.value in
          (got.3 ∙ sym got.1, subst (λ (o : Option ℕ). IfSome o (IsUpTo LONGEST_STORM)) (sym got.1) got.2)
    ] in
    let workers_is : workers.0 ≡ c.unwrap.result = some_is _ _ (sym workers.1 ∙ c.unwrap.ensures) in
    let turns_is : turns.0 ≡ c.unwrap-2.result = some_is _ _ (sym turns.1 ∙ c.unwrap-2.ensures) in
    record {
      options = record {
        workers = workers.3 ∙ ap Some workers_is;
        turns = turns.3 ∙ ap Some turns_is;
        storm = storm.0;
        trace = c.is_given.ensures;
        help = c.is_given-2.ensures;
        version = c.is_given-3.ensures;
      };
      range = record {
        workers = subst (IsUpTo MOST_WORKERS) workers_is workers.2;
        turns = subst (IsUpTo MOST_TURNS) turns_is turns.2;
        storm = storm.1;
      };
    }
  where
    some_is : (a b : ℕ) → ◌≡◌ {A = Option ℕ} (Some a) (Some b) → a ≡ b
    some_is a b e = ap (λ (o : Option ℕ). unwrap_or o a) e
