use Rattle.seam_law_transcript.proofs.Prelude.{◌≡◌, ℕ, List, [], ◌++◌, length, None, Some, refl, sym, ap, ◌∙◌, arith, append-nil, find}
use Rattle.seam_law_transcript.proofs.Prelude.{◌==◌, Book, entries, creates_of, created_as, tree_of, with_round_ended, with_tree, Create}
use Rattle.seam_law_transcript.proofs.Prelude.{Header, ClientReplica, after_lines, Standing, replica_of, RoundData, IsRound, Line, ends}
use Rattle.seam_law_transcript.proofs.Prelude.{balances, IsPlayed, standing_of, ShowsTruly}
use Rattle.seam_defs.specs.declared.flags.Part.TheVariants as part
use Rattle.seam_law_transcript.proofs.Truly.{truly_later, truly_then}
use Rattle.seam_law_transcript.proofs.whole_runs.a_run_round_is_legal.Goals as goal

-- who was created stays so as the round ends
entries_stay : (b : Book) (x : ℕ) → created_as (with_round_ended b) x ≡ created_as b x
entries_stay b x = ap (λ l. find (λ d. d.entity == x) (creates_of l)) (append-nil (entries b))

-- what clients show is true by the next book
truly_at_end : (h : Header) (s : Standing) (r : RoundData) (t : Standing)
    (follow : (k : ClientReplica) (lines more : List Line) → after_lines k (lines ++ more) ≡ after_lines (after_lines k lines) more) →
    IsRound h s r t → ((e : ℕ) → ShowsTruly h s.book s.orders e (replica_of h s e)) → (b : Book) →
    ((x : ℕ) (made : Create) → created_as s.book x ≡ Some made → created_as b x ≡ Some made) →
    (e : ℕ) → ShowsTruly h b t.orders e (replica_of h t e)
truly_at_end h s r t follow legal truly b known e =
    truly_later h s.book b t.orders t.orders known (λ x. ([], sym (append-nil (t.orders part.Cell x)))) e (replica_of h t e)
    (truly_then follow h s r t legal truly e)

pub returns-clause-kept : goal.returns-clause-kept
returns-clause-kept c h s tree w g end v round ended made live made_listed live_listed none =
    let p : IsPlayed h s tree w v = record {
      beside = c.a_round_may_be_run.ensures.stands h s tree w g end;
      round = round;
      ended = ended;
      made = made;
      made_listed = made_listed;
      live = live;
      live_listed = live_listed;
    } in
    let t = standing_of h s tree w v p None (with_round_ended s.book) in
    let entries_ = g.counted.entries_ in
    let all = ap length (append-nil (entries s.book)) in
    let legal = c.a_played_round_is_legal.ensures.kept h s tree w v p none in
    let counted = end.counted in (
      legal,
      record {
        legal = g.legal;
        of_lines = ends s.book g.of_lines;
        between = c.a_standing_goes_with_the_world_after_its_round.ensures.ended h s tree w v p None;
        truly = truly_at_end h s _ t c.lines_follow_lines.ensures legal g.truly t.book (λ x made is. entries_stay s.book x ∙ is);
        bounded = c.a_round_leaves_few_numbers.ensures.bounded h s tree w g end v round ended;
        counted = record { entries_ = omega (arith, entries_, all); rounds = omega (arith, counted) };
        few = c.a_round_leaves_few_numbers.ensures.few h s tree w g end v round ended t refl refl;
      },
    )

pub returns-clause-balanced : goal.returns-clause-balanced
returns-clause-balanced c h s tree w g end v round ended made live made_listed live_listed some u is_tree same balanced =
    let p : IsPlayed h s tree w v = record {
      beside = c.a_round_may_be_run.ensures.stands h s tree w g end;
      round = round;
      ended = ended;
      made = made;
      made_listed = made_listed;
      live = live;
      live_listed = live_listed;
    } in
    let may = c.the_next_round_has_the_tree_of_the_rules.ensures.replaces (tree_of s.book) u is_tree same in
    let t = standing_of h s tree w v p (Some u) (with_tree (with_round_ended s.book) u) in
    let entries_ = g.counted.entries_ in
    let all = ap length (append-nil (entries s.book)) in
    let legal = c.a_played_round_is_legal.ensures.balanced h s tree w v p u some balanced in
    let counted = end.counted in (
      legal,
      record {
        legal = g.legal;
        of_lines = balances s.book u g.of_lines may;
        between = c.a_standing_goes_with_the_world_after_its_round.ensures.balanced h s tree w v p (Some u) u may;
        truly = truly_at_end h s _ t c.lines_follow_lines.ensures legal g.truly t.book (λ x made is. entries_stay s.book x ∙ is);
        bounded = c.a_round_leaves_few_numbers.ensures.bounded h s tree w g end v round ended;
        counted = record { entries_ = omega (arith, entries_, all); rounds = omega (arith, counted) };
        few = c.a_round_leaves_few_numbers.ensures.few h s tree w g end v round ended t refl refl;
      },
    )
