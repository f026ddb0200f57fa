use Rattle.seam_toml.proofs.header.read_header.Goals as goal

pub returns-in-Err-clause-cause : goal.returns-in-Err-clause-cause
returns-in-Err-clause-cause c = c.no_document.ensures c.args.text.now c.in-Err.ensures.cause

pub returns-in-Ok-Some-clause-cause : goal.returns-in-Ok-Some-clause-cause
returns-in-Ok-Some-clause-cause c =
    c.at_fault.ensures c.args.text.now (record {
      short = c.in-Ok.ensures.short;
      ms = _;
      document = c.in-Ok.ensures.document;
      first = rw
          c.in-Ok-Some.field-0-is at c.in-Ok-Some.ensures;
    })
