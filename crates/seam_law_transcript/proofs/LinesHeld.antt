-- The lines that are looked up are those that the entity's flow has.
use Rattle.seam_law_transcript.proofs.Prelude.{◌≡◌, ℕ, List, ap, if◌then◌else◌, list_any, Line, World, Header, Book, destroys, entity_flow}
use Rattle.seam_law_transcript.proofs.Prelude.{proxy_of, lines_in, base_node, lines_shown, lines_told, part_is}

abbrev pub lines_held : Header → World → ℕ → List Line
lines_held h w e = lines_in (proxy_of ((entity_flow e w).slot (base_node h e)).base.part)

shown_held : (h : Header) (w : World) (e : ℕ) → lines_shown h w e ≡ lines_held h w e
shown_held h w e = ap (λ o. lines_in (proxy_of o)) (part_is e w (base_node h e))

pub told_held : (h : Header) (b : Book) (called v : World) (e : ℕ) →
    lines_told h b called v e ≡ (if list_any (destroys e) b.current then lines_held h called e else lines_held h v e)
told_held h b called v e = (λ i. if list_any (destroys e) b.current then shown_held h called e i else shown_held h v e i)
