use Rattle.std.proofs.Common.{rules, ◌≡◌, ◌-◌, ◌<◌, ◌++◌, ◌∷◌, [], ℕ, List, length, refl, ◌∙◌, ap, arith, length-append, length-set, Err}
use Rattle.std.specs.Prelude.{slice_index, ◌==◌}
use Rattle.std.specs.Str.{IsUtf8}
use Rattle.std.proofs.lemmas.Result.{err_from_is_err_and}
use Rattle.seam_words.specs.declared.words.TheConstants.{MOST_WORDS}
use Rattle.seam_words.specs.declared.words.WordsError.TheVariants.{TooManyWords}
use Rattle.seam_words.specs.Words.{Span, bytes_of}
use Rattle.seam_words.specs.Faults.{BeginsWord, Refuses}
use Rattle.seam_words.proofs.Prefixes.{shorter}
use Rattle.seam_words.proofs.Reading.{LiesBetween, within, read_gap, read_word, text_of_word, too_many, bad_word, read_whole}
use Rattle.seam_words.proofs.TextTables.{one_more_word}
use Rattle.seam_words.proofs.WordTexts.{words_are_one_list, no_words_at_fault, fault_is_first}
use Rattle.seam_words.proofs.texts.words_of_line.Goals as goal

pub loop-rest-init : goal.loop-rest-init
loop-rest-init c = ([], read_gap c.args.line.now c.after_gap-rest.result.now c.after_gap-rest.ensures.rest, refl, refl, search rules)

pub returns-then-count-eq-MOST_WORDS-clause-cause : goal.returns-then-count-eq-MOST_WORDS-clause-cause
returns-then-count-eq-MOST_WORDS-clause-cause c =
    let utf8 : IsUtf8 c.args.line.now = search rules in
    let begins : BeginsWord c.loop-rest.rest.now = search rules in
    too_many c.args.line.now c.loop-rest.invariant.0 c.loop-rest.rest.now utf8 c.loop-rest.invariant.1
    (c.loop-rest.invariant.2 ∙ c.if-count-eq-MOST_WORDS.true) begins

pub returns-then-count-eq-MOST_WORDS-clause-found : goal.returns-then-count-eq-MOST_WORDS-clause-found
returns-then-count-eq-MOST_WORDS-clause-found c texts has =
    no_words_at_fault c.args.line.now TooManyWords texts (returns-then-count-eq-MOST_WORDS-clause-cause c) has

pub returns-then-count-eq-MOST_WORDS-clause-refused : goal.returns-then-count-eq-MOST_WORDS-clause-refused
returns-then-count-eq-MOST_WORDS-clause-refused c error refusal =
    ap Err (fault_is_first c.args.line.now TooManyWords error (returns-then-count-eq-MOST_WORDS-clause-cause c) refusal)

-- the line is refused for its bad word
refusal_of_word : (c : goal.After-from_residual) → Refuses c.args.line.now c.in_err-after.field-0.0
refusal_of_word c =
    let utf8 : IsUtf8 c.args.line.now = search rules in
    let few : length c.loop-rest.invariant.0 < MOST_WORDS = omega (arith, c.loop-rest.invariant.1.most) in
    bad_word c.args.line.now c.loop-rest.invariant.0 c.loop-rest.rest.now c.in_err-after.field-0.0 utf8 c.loop-rest.invariant.1 few
    c.in_err-after.ensures.fault

pub returns-in_err-after-clause-cause : goal.returns-in_err-after-clause-cause
returns-in_err-after-clause-cause c =
    let p = err_from_is_err_and c.from_residual.result c.from_residual.ensures.1 in
    rw (p.1, p.2) (refusal_of_word c)

pub returns-in_err-after-clause-found : goal.returns-in_err-after-clause-found
returns-in_err-after-clause-found c texts has =
    absurd (no_words_at_fault c.args.line.now c.in_err-after.field-0.0 texts (refusal_of_word c) has)

pub returns-in_err-after-clause-refused : goal.returns-in_err-after-clause-refused
returns-in_err-after-clause-refused c error refusal =
    let p = err_from_is_err_and c.from_residual.result c.from_residual.ensures.1 in
    rw (p.1, p.2) (ap Err (fault_is_first c.args.line.now c.in_err-after.field-0.0 error (refusal_of_word c) refusal))

pub loop-rest-preserved : goal.loop-rest-preserved
loop-rest-preserved c =
    let line : List ℕ = c.args.line.now in
    let spans : List Span = c.loop-rest.invariant.0 in
    let rest : List ℕ = c.loop-rest.rest.now in
    let after : List ℕ = c.in_ok-after.after.now in
    let less = within line spans rest c.loop-rest.invariant.1 in
    let fewer = shorter (slice_index rest 0 == 34) rest after c.in_ok-after.ensures.word in
    let span : Span = record { start = length line - length rest; end = length line - length after; quoted = slice_index rest 0 == 34 } in
    let lies : LiesBetween line rest after span = record { start = omega arith; end = omega arith; quoted = refl } in
    let few : length spans < MOST_WORDS = omega (arith, c.loop-rest.invariant.1.most) in
    let in_table : c.loop-rest.count < length c.loop-rest.table = omega arith in (
      spans ++ span ∷ [],
      read_word line spans rest after c.after_word_gap-rest.result.now span c.loop-rest.invariant.1 few c.in_ok-after.ensures.word lies
          c.after_word_gap-rest.ensures.rest,
      omega (arith, length-append spans (span ∷ [])),
      one_more_word (λ w. w.now) (bytes_of line) c.loop-rest.table spans c.loop-rest.count _ span in_table
          (text_of_word line spans rest after span c.loop-rest.invariant.1 c.in_ok-after.ensures.word lies) c.loop-rest.invariant.3,
      length-set c.loop-rest.table c.loop-rest.count _ ∙ c.loop-rest.invariant.4,
    )

pub returns-clause-words : goal.returns-clause-words
returns-clause-words c =
    let utf8 : IsUtf8 c.args.line.now = search rules in
    let none : length c.loop-rest.rest.now ≡ 0 = search rules in
    record {
      spans = c.loop-rest.invariant.0;
      text = utf8;
      are = read_whole c.args.line.now c.loop-rest.invariant.0 c.loop-rest.rest.now c.loop-rest.invariant.1 none;
      most = c.loop-rest.invariant.1.most;
      texts = c.loop-rest.invariant.3;
    }

pub returns-clause-found : goal.returns-clause-found
returns-clause-found c texts has = words_are_one_list c.args.line.now _ texts (returns-clause-words c) has

pub returns-clause-refused : goal.returns-clause-refused
returns-clause-refused c error refusal = absurd (no_words_at_fault c.args.line.now error _ refusal (returns-clause-words c))
