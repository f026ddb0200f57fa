use Rattle.std.proofs.Common.{◌≡◌, ◌∷◌, ◌∙◌, ap, map, sym}
use Rattle.std.proofs.lemmas.List.{drop-map}
use Rattle.seam_machine.specs.Nets.{row_less}
use Rattle.seam_machine.specs.declared.machines.Input.TheVariants.{From}
use Rattle.seam_machine.proofs.RowLemmas.{view-same, take_first, feeds, in_view}
use Rattle.seam_machine.proofs.rows.Row.serve.Goals as goal

pub returns-in-Ok-clause-served : goal.returns-in-Ok-clause-served
returns-in-Ok-clause-served g c =
    let qs = c.self.inside.links.items in
    let lt = in_view qs (λ q. map (λ p. p.1) q.items) c.args.self.now c.args.to c.self.view_is c.requires in
    record {
      input = From c.args.from c.in-Some.item;
      is_fed =
          feeds qs (λ q. map (λ p. p.1) q.items) c.args.self.now c.args.from c.args.to c.index_mut-link.result.now c.in-Some.item
          (map (λ p. p.1) c.pop_front.new.self.items) c.self.view_is lt c.index_mut-link.ensures.value
          (ap (map (λ p. p.1)) c.in-Some.ensures.items);
      row_is =
          take_first qs (λ q. map (λ p. p.1) q.items) c.args.to c.pop_front.new.self c.index_mut-link.result.now lt
          (ap (map (λ p. p.1)) c.pop_front.ensures.rest ∙ sym (drop-map (λ p. p.1) 1 c.index_mut-link.result.now.items))
          c.index_mut-link.ensures.value ∙ ap (λ r. row_less r c.args.to) c.self.view_is;
      state_is = c.in-Ok.ensures.state;
      out_is = c.in-Ok.ensures.sent;
    }

pub returns-in-Err-clause-err_row : goal.returns-in-Err-clause-err_row
returns-in-Err-clause-err_row g c =
    let qs = c.self.inside.links.items in
    let back : From c.in-From.field-0 c.in-From.back ≡ From c.args.from c.in-Some.item = sym c.in-From.is ∙ c.in-Err.ensures.err_input in
    let same : c.in-From.back ≡ c.in-Some.item = cc in
    let all : c.push_front_reserved.new.self.items ≡ c.index_mut-link.result.now.items =
    c.push_front_reserved.ensures.items
    ∙ (ap (λ m. (c.in-Some.number, m) ∷ c.pop_front.new.self.items) same ∙ sym c.in-Some.ensures.items) in
    view-same qs (λ q. map (λ p. p.1) q.items) c.args.to c.push_front_reserved.new.self c.index_mut-link.result.now
    (ap (map (λ p. p.1)) all) c.index_mut-link.ensures.value ∙ c.self.view_is
