use Rattle.std.proofs.Common.{◌∙◌, sym, arith, inl, inr}
use Rattle.seam_accept.proofs.CreateLemmas.{none_of_false, no_type_first, outside_first, full_first, create_accepted}
use Rattle.seam_accept.proofs.judging.judge_create.Goals as goal
use Rattle.seam_accept.proofs.judging.judge_create.Goals.{then-size-x-via-then-size-x, then-size-x-via-else-size-x+then-size-z}

pub returns-in_default-type_named-clause-refused : goal.returns-in_default-type_named-clause-refused
returns-in_default-type_named-clause-refused c = λ b was.
    no_type_first c.args.header.now b c.args.words.now.entity.now c.args.words.now.type_name.now c.args.words.now.place.x.now
    c.args.words.now.place.z.now c.in-Some.entity c.in-Some-whole_number.x c.in-Some-whole_number-2.z
    (record {
      number = c.in-Some.ensures;
      spelled_x = c.in-Some-whole_number.ensures;
      spelled_z = c.in-Some-whole_number-2.ensures;
      new = none_of_false _ (sym (c.is_used.ensures b was) ∙ c.if-is_used.false);
    })
    c.in_default-type_named.ensures

pub returns-then-size-x-clause-refused : goal.returns-then-size-x-clause-refused
returns-then-size-x-clause-refused c = λ b was.
    outside_first c.args.header.now b c.args.words.now.entity.now c.args.words.now.type_name.now c.args.words.now.place.x.now
    c.args.words.now.place.z.now c.in-Some.entity c.in-Some-whole_number.x c.in-Some-whole_number-2.z
    (record {
      number = c.in-Some.ensures;
      spelled_x = c.in-Some-whole_number.ensures;
      spelled_z = c.in-Some-whole_number-2.ensures;
      new = none_of_false _ (sym (c.is_used.ensures b was) ∙ c.if-is_used.false);
    })
    c.in-Some-type_named.ty c.in-Some-type_named.ensures
    (elim c.then-size-x.branch [
      | then-size-x-via-then-size-x w ↦ inl (omega (arith, w.if-size-x.true))
      | then-size-x-via-else-size-x+then-size-z w ↦ inr (omega (arith, w.if-size-z.true))
    ])

pub returns-then-len-ge-MOST_ENTITIES-clause-refused : goal.returns-then-len-ge-MOST_ENTITIES-clause-refused
returns-then-len-ge-MOST_ENTITIES-clause-refused c = λ b was.
    let count = was.count in
    full_first c.args.header.now b c.args.words.now.entity.now c.args.words.now.type_name.now c.args.words.now.place.x.now
    c.args.words.now.place.z.now c.in-Some.entity c.in-Some-whole_number.x c.in-Some-whole_number-2.z
    (record {
      number = c.in-Some.ensures;
      spelled_x = c.in-Some-whole_number.ensures;
      spelled_z = c.in-Some-whole_number-2.ensures;
      new = none_of_false _ (sym (c.is_used.ensures b was) ∙ c.if-is_used.false);
    })
    c.in-Some-type_named.ty c.in-Some-type_named.ensures (omega (arith, c.if-size-x.false)) (omega (arith, c.if-size-z.false))
    (omega (arith, count, c.len.ensures.len, c.len-2.ensures.len, c.if-len-ge-MOST_ENTITIES.true))

pub returns-clause-judged : goal.returns-clause-judged
returns-clause-judged c = λ b was.
    let count = was.count in (
      create_accepted c.args.header.now b c.args.words.now.entity.now c.args.words.now.type_name.now c.args.words.now.place.x.now
          c.args.words.now.place.z.now c.in-Some.entity c.in-Some-whole_number.x c.in-Some-whole_number-2.z
          (record {
            number = c.in-Some.ensures;
            spelled_x = c.in-Some-whole_number.ensures;
            spelled_z = c.in-Some-whole_number-2.ensures;
            new = none_of_false _ (sym (c.is_used.ensures b was) ∙ c.if-is_used.false);
          })
          c.in-Some-type_named.ty c.in-Some-type_named.ensures (omega (arith, c.if-size-x.false)) (omega (arith, c.if-size-z.false))
          (omega (arith, count, c.len.ensures.len, c.len-2.ensures.len, c.if-len-ge-MOST_ENTITIES.false)),
      none_of_false _ (sym (c.is_used.ensures b was) ∙ c.if-is_used.false),
    )
