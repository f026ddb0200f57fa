-- What a witness told stays within what it told at the start and what its looks may tell, by how many entities there are to look at.
use Rattle.seam_law_bounds.proofs.Prelude.{◌≡◌, ℕ, ◌+◌, ◌*◌, ◌≤◌, List, length, Some, sym, ap, ◌∙◌, arith, mul-le-mul_left, cells_of}
use Rattle.seam_law_bounds.proofs.Prelude.{happens, Occurs, Event, Here, base_of, cell_count, RealView, WitnessView, Known, shown_of}
use Rattle.seam_law_bounds.proofs.Prelude.{CellView, known_to, World, node_steps, Cell, slot_at, Frame, IsInFrame, has_of, has_none}
use Rattle.seam_law_bounds.proofs.Prelude.{real_in, sent_of, sent_by, EachReal, HasToldAtMost, looks_left, RunsTo, LooksAmong, LooksFit}
use Rattle.seam_law_bounds.proofs.Prelude.{Always, frame_happens, ByWitness, each_weaker, reached_keep}
use Rattle.seam_law_calls.proofs.Looking.{looked_at}
use Rattle.seam_law_calls.proofs.LooksLeft.{looks_left_happens, looks_left_falls}
use Rattle.seam_law_calls.proofs.Telling.{Looked, each_looked}
use Rattle.seam_law_bounds.proofs.ToldCounts.{tells_few}

module _ (f : Frame) (most : cells_of f.tree ≤ cell_count) (us ws : List ℕ)
    (few : (w : World) → LooksAmong us (λ k. ws) w →
    LooksFit (record { bases = 0; lines = length us; witnesses = λ k. length ws }) w) (start : World)
    (among : Always (LooksAmong us (λ k. ws)) start) (e b : ℕ) where
  -- a look tells at most so much
  abbrev lines : ℕ
  lines = 1 + length us

  -- what the witness told, and may tell in n looks, is at most b
  abbrev IsWithin : ℕ → RealView → Type 0
  IsWithin n r = sent_by r + lines * n ≤ b

  within_by : (n : ℕ) → ByWitness (IsWithin n)
  within_by n r q same h = let is = ap sent_of same in omega (arith, is, h)

  fewer_left : (m n : ℕ) → m ≤ n → (r : RealView) → IsWithin n r → IsWithin m r
  fewer_left m n le r h = let less = mul-le-mul_left lines le in omega (arith, h, less)

  -- after a look one less is left
  within_look : (at : Here) (known : List Known) (r : RealView) (x : WitnessView) → r.witness ≡ Some x →
      length (shown_of at r x known) ≤ lines → (m n : ℕ) → m + 1 ≤ n → IsWithin n r → IsWithin m (looked_at at known r x)
  within_look at known r x seen told m n le h =
      let sent = ap sent_of seen in
      let less = mul-le-mul_left lines le in
      let split : lines * (m + 1) ≡ lines * m + lines = omega arith in
      omega (arith, told, sent, less, split, h)

  record Within (w : World) : Type 0 where
    frame : IsInFrame f w
    each : EachReal e (IsWithin (looks_left e w)) w

  -- ---- an event

  module _ (w : World) (before : List Event) (from : RunsTo start before w) (v : Event) (o : Occurs w v) (h : Within w) where
    abbrev next : World
    next = happens node_steps w v

    abbrev left : ℕ
    left = looks_left e next

    weaker : EachReal e (IsWithin left) w
    weaker =
        each_weaker (IsWithin (looks_left e w)) (IsWithin left) e w
        (fewer_left left (looks_left e w) (looks_left_happens f most e w v o h.frame)) h.each

    looked : (c : CellView) → o.node ≡ Cell c → (l : Looked e w v o c) → IsWithin left (looked_at c.here (known_to c e) l.real l.witness)
    looked c is l =
        let told =
        tells_few us ws few w (among w before from) v.node c (o.is_node ∙ ap Some is) e l.real l.witness
        (ap (λ n. (has_of e n).cell.slot.real) (sym is) ∙ l.was) l.seen in
        let less =
        looks_left_falls f most e w v o h.frame (base_of c.here e) c.here (known_to c e) (ap (λ s. (has_of e s).base.orders) is)
        (ap (λ s. (has_of e (node_steps s o.input).state).base.orders) is) l in
        within_look c.here (known_to c e) l.real l.witness l.seen told left (looks_left e w) less
        (h.each.cells v.node l.real (ap (λ n. real_in (slot_at (has_of e) has_none n)) o.is_node ∙ l.was))

    within_happens : Within next
    within_happens = record {
      frame = frame_happens f w v o h.frame;
      each = each_looked f e w v o h.frame (IsWithin left) (within_by left) weaker looked;
    }

  within_leads : (v : World) (es : List Event) → Within start → RunsTo start es v → Within v
  within_leads = reached_keep start Within within_happens

-- ---- all of it

module _ (f : Frame) (most : cells_of f.tree ≤ cell_count) (us ws : List ℕ)
    (few : (w : World) → LooksAmong us (λ k. ws) w →
    LooksFit (record { bases = 0; lines = length us; witnesses = λ k. length ws }) w) (start : World)
    (among : Always (LooksAmong us (λ k. ws)) start) (e n : ℕ) (frame : IsInFrame f start) (told : HasToldAtMost e n start) (v : World)
    (es : List Event) (run : RunsTo start es v) where
  abbrev b : ℕ
  b = n + (1 + length us) * looks_left e start

  at_start : (r : RealView) → sent_by r ≤ n → IsWithin f most us ws few start among e b (looks_left e start) r
  at_start r le = omega (arith, le)

  at_end : (r : RealView) → IsWithin f most us ws few start among e b (looks_left e v) r → sent_by r ≤ b
  at_end r le = omega (arith, le)

  pub tells_at_most : HasToldAtMost e b v
  tells_at_most =
      each_weaker (IsWithin f most us ws few start among e b (looks_left e v)) (λ r. sent_by r ≤ b) e v at_end
      (within_leads f most us ws few start among e b v es (record {
        frame = frame;
        each = each_weaker (λ r. sent_by r ≤ n) (IsWithin f most us ws few start among e b (looks_left e start)) e start at_start told;
      }) run).each
