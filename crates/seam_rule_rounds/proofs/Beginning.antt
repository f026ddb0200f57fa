-- The generated input begins with a header that sets nothing, and has fewer bytes than a run may take.
use Rattle.std.proofs.Common.{◌≡◌, ◌≢◌, ◌+◌, ◌-◌, ◌*◌, ◌/◌, ◌%◌, ◌^◌, ◌<◌, ◌≤◌, ℕ, zero, suc, Bool, true, false, cond, List, [], ◌∷◌, ◌++◌}
use Rattle.std.proofs.Common.{length, drop}
use Rattle.std.proofs.Common.{refl, ap, ◌∙◌, arith, length-append}
use Rattle.std.specs.Prelude.{codes, ◌==◌}
use Rattle.std.specs.List.{flat_map, range_with_len}
use Rattle.std.proofs.lemmas.Fmt.{length-decimal-le}
use Rattle.std.proofs.lemmas.List.Elements.{All-nil}
use Rattle.seam_rule_rounds.specs.Prelude.{Line, Content, lines_of, text_of_storm, lines_text, drawn_line, sync_after, seed_after, sender}
use Rattle.seam_rule_rounds.specs.Prelude.{move_line, call_line, method_of, is_move, draw, next_seed, entity, kind, cuts, create_line}
use Rattle.seam_rule_rounds.specs.Prelude.{client_line, raster, Header, BeginWithHeader, separator}
use Rattle.seam_io.proofs.LineLemmas.{lines_of-fed, line_of-short, no_feed_append, no_feed_one}
use Rattle.seam_storm.specs.Storm.{opening, field}
use Rattle.seam_toml.proofs.EmptyHeader.{plain_header, nothing_is_read}

-- the text after the header
after_header : ℕ → List ℕ
after_header n = drop 3 (text_of_storm n)

pub storm_begins : (n : ℕ) → (h : Header) × (rest : List Line) × BeginWithHeader (lines_of (text_of_storm n)) h 1 rest
unfolding after_header
storm_begins n = (
  plain_header,
  lines_of (after_header n),
  record {
    head = [];
    text = [];
    are = record {
      contents = [];
      are = refl;
      none_ends = All-nil (λ content. Content content ≢ separator);
      whole = refl;
      most = omega arith;
    };
    reads = nothing_is_read;
    number = refl;
    whole = lines_of-fed (codes "%%") (after_header n) (no_feed_append (37 ∷ []) (37 ∷ []) (no_feed_one 37 refl) (no_feed_one 37 refl))
        ∙ ap (λ (l : Line). l ∷ lines_of (after_header n)) (line_of-short (codes "%%") (omega arith));
  },
)

-- ---- how long it is

field_is_short : (n : ℕ) → n < 10 ^ 4 → length (field n) ≤ 5
field_is_short n low = let digits = length-decimal-le 4 n (omega arith) low (omega (arith, low)) in omega (arith, digits)

sender_is_short : (e : ℕ) → length (sender e) ≤ 3
sender_is_short e = by (e % 2 == 1)
  where
    by : (b : Bool) → length (cond b (codes " b1") (codes " b2")) ≤ 3
    by true = omega arith
    by false = omega arith

method_is_short : (d : ℕ) → length (method_of d) ≤ 5
method_is_short d = by (kind d == 2)
  where
    by : (b : Bool) → length (cond b (codes " hit") (codes " heal")) ≤ 5
    by true = omega arith
    by false = omega arith

six_parts : (a b c d e f : List ℕ) →
    length (a ++ b ++ c ++ d ++ e ++ f) ≡ length a + length b + length c + length d + length e + length f
six_parts a b c d e f = simp length-append

move_is_short : (e f : ℕ) → e ≤ 64 → length (move_line e f) ≤ 32
move_is_short e f low =
    let parts = six_parts (codes "move") (sender e) (field e) (field (f % 10000)) (field (f / 10000 % 10000)) (10 ∷ []) in
    let s = sender_is_short e in
    let a = field_is_short e (omega (arith, low)) in
    let b = field_is_short (f % 10000) (omega arith) in
    let c = field_is_short (f / 10000 % 10000) (omega arith) in
    omega (arith, parts, s, a, b, c)

call_is_short : (e d amount : ℕ) → e ≤ 64 → amount < 100 → length (call_line e (method_of d) amount) ≤ 32
call_is_short e d amount low few =
    let parts = six_parts (codes "call") (sender e) (field e) (method_of d) (field amount) (10 ∷ []) in
    let s = sender_is_short e in
    let a = field_is_short e (omega (arith, low)) in
    let b = method_is_short d in
    let c = field_is_short amount (omega (arith, few)) in
    omega (arith, parts, s, a, b, c)

drawn_is_short : (x : ℕ) → length (drawn_line x) ≤ 32
drawn_is_short x = by (is_move (draw x))
  where
    by : (b : Bool) →
        length (cond b (move_line (entity (draw x)) (draw (next_seed x)))
        (call_line (entity (draw x)) (method_of (draw x)) (draw x / 256 % 100)))
        ≤ 32
    by true = move_is_short (entity (draw x)) (draw (next_seed x)) (omega arith)
    by false = call_is_short (entity (draw x)) (draw x) (draw x / 256 % 100) (omega arith) (omega arith)

sync_is_short : (k : ℕ) → length (sync_after k) ≤ 5
sync_is_short k = by (k % 1000 == 0)
  where
    by : (b : Bool) → length (cond b (codes "sync\n") []) ≤ 5
    by true = omega arith
    by false = omega arith

lines_are_short : (left k x : ℕ) → length (lines_text left k x) ≤ left * 37
lines_are_short zero k x = omega arith
lines_are_short (suc left) k x =
    let first = length-append (drawn_line x ++ sync_after k) (lines_text left (k + 1) (seed_after x)) in
    let second = length-append (drawn_line x) (sync_after k) in
    let line = drawn_is_short x in
    let sync = sync_is_short k in
    let rest = lines_are_short left (k + 1) (seed_after x) in
    omega (arith, first, second, line, sync, rest)

create_is_short : (e : ℕ) → e ≤ 64 → length (create_line e) ≤ 32
create_is_short e low =
    let x = raster ((e - 1) % 8) in
    let z = raster ((e - 1) / 8) in
    let parts = six_parts (codes "create") (field e) (codes " Avatar") (field x) (field z) (10 ∷ []) in
    let a = field_is_short e (omega (arith, low)) in
    let b = field_is_short x (omega (arith, low)) in
    let c = field_is_short z (omega (arith, low)) in
    omega (arith, parts, a, b, c)

client_is_short : (e : ℕ) → e ≤ 64 → length (client_line e) ≤ 32
client_is_short e low =
    let parts = length-append (codes "client" ++ field e) (10 ∷ []) in
    let word = length-append (codes "client") (field e) in
    let a = field_is_short e (omega (arith, low)) in
    omega (arith, parts, word, a)

all_are_short : (f : ℕ → List ℕ) → ((e : ℕ) → e ≤ 64 → length (f e) ≤ 32) → (e count : ℕ) → e + count ≤ 65 →
    length (flat_map f (range_with_len e count)) ≤ count * 32
all_are_short f short e zero low = omega arith
all_are_short f short e (suc count) low =
    let parts = length-append (f e) (flat_map f (range_with_len (e + 1) count)) in
    let first = short e (omega (arith, low)) in
    let rest = all_are_short f short (e + 1) count (omega (arith, low)) in
    omega (arith, parts, first, rest)

opening_is_short : length opening ≤ 4096
opening_is_short =
    let creates = flat_map create_line (range_with_len 1 64) in
    let clients = flat_map client_line (range_with_len 1 8) in
    let first = length-append cuts (creates ++ clients) in
    let second = length-append creates clients in
    let a = all_are_short create_line create_is_short 1 64 (omega arith) in
    let b = all_are_short client_line client_is_short 1 8 (omega arith) in
    omega (arith, first, second, a, b)

pub storm_is_short : (n : ℕ) → n ≤ 1000000 → length (text_of_storm n) < 2 ^ 40
storm_is_short n low =
    let parts = length-append opening (lines_text n 1 n) in
    let first = opening_is_short in
    let rest = lines_are_short n 1 n in
    omega (arith, low, parts, first, rest)
