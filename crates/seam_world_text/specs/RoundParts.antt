-- The two parts of a round's text after its number line: its calls, and what it leaves; and what of them is written of each resident.
use Rattle.std.specs.Prelude.{◌≡◌, ℕ, List, [], ◌++◌, map, codes, Option, None, Some, if◌then◌else◌}
use Rattle.std.specs.List.{flat_map}
use Rattle.std.specs.FinMap as table
use Rattle.seam_defs.specs.declared.flags.Part.TheVariants as part
use Rattle.seam_node_steps.specs.Prelude.{Part, TypeDef, Call, Create, Line, Map, World}
use Rattle.seam_rule_rounds.specs.Prelude.{DoneLine, number_text, done_text, home_text, base_text, RoundData, ghost_text, client_text}
use Rattle.seam_rule_rounds.specs.Prelude.{bounds_text}
use Rattle.seam_law_transcript.specs.Prelude.{client_lines}
use Rattle.seam_world_text.specs.Finding.{done_found, homes_found, bases_found, ghosts_found, lines_found}
use Rattle.seam_world_text.specs.declared.farewells.Farewell.{Farewell}
use Rattle.seam_world_text.specs.declared.residents.Resident.{Resident}
use Rattle.seam_world_text.specs.declared.chunks.Texts.{Texts}

-- ---- a round

-- the calls that were executed
abbrev pub calls_text : List TypeDef → RoundData → List ℕ
calls_text defs r = flat_map (done_text (codes "did ") defs) r.did ++ flat_map (done_text (codes "dob ") defs) r.dob

-- what it leaves, what clients were shown, and its number again
abbrev pub ends_text : List TypeDef → RoundData → List ℕ
ends_text defs r =
    flat_map (home_text defs) r.homes ++ flat_map (base_text defs) r.bases ++ flat_map ghost_text r.ghosts
    ++ flat_map (client_text defs) r.shown ++ bounds_text r.bounds ++ number_text (codes "end ") r.number

-- ---- of one resident, as a world has it

-- the lines of calls of an entity of this type
abbrev pub done_of_type : ℕ → List Call → List DoneLine
done_of_type ty calls = map (λ x. record { ty = ty; call = x }) calls

-- the calls that its part executed, each under a word
abbrev pub done_of : List ℕ → List TypeDef → Part → World → Resident → List ℕ
done_of word defs p w r = flat_map (done_text word defs) (done_of_type r.made.ty (done_found p w r.made.entity))

abbrev pub home_of : List TypeDef → World → Resident → List ℕ
home_of defs w r = flat_map (home_text defs) (homes_found w r.made.entity)

abbrev pub base_of : List TypeDef → World → Resident → List ℕ
base_of defs w r = flat_map (base_text defs) (bases_found w r.made.entity)

abbrev pub ghosts_of : World → Resident → List ℕ
ghosts_of w r = flat_map ghost_text (ghosts_found w r.made.entity)

-- the lines of the client of an entity that was made so
abbrev pub lines_text : List TypeDef → Create → List Line → List ℕ
lines_text defs c ls = flat_map (client_text defs) (client_lines c ls)

-- those that its client was shown in the round so far
abbrev pub shown_so_far : List TypeDef → World → Create → List ℕ
shown_so_far defs w c = lines_text defs c (lines_found w c.entity)

-- a text that was kept, or another one
abbrev pub kept_text : Option Farewell → List ℕ → List ℕ
kept_text None text = text
kept_text (Some kept) text = kept.text

-- what its client was shown: what was kept of that, or else what the world has, and nothing where it has no client
abbrev pub shown_of : List TypeDef → Map Farewell → World → Resident → List ℕ
shown_of defs farewells w r =
    if r.client then kept_text (table.get farewells r.made.entity) (shown_so_far defs w r.made) else []

-- ---- of many residents

-- the calls that their parts executed: those of cell parts, and then those of base parts
abbrev pub all_done_of : List TypeDef → World → List Resident → List ℕ
all_done_of defs w rs = flat_map (done_of (codes "did ") defs part.Cell w) rs ++ flat_map (done_of (codes "dob ") defs part.Base w) rs

-- what they left: homes, base parts, ghosts, and what their clients were shown
abbrev pub left_of : List TypeDef → Map Farewell → World → List Resident → List ℕ
left_of defs farewells w rs =
    flat_map (home_of defs w) rs ++ (flat_map (base_of defs w) rs ++ (flat_map (ghosts_of w) rs ++ flat_map (shown_of defs farewells w) rs))

-- the first texts, one after the other, are what f gives of each resident, and the second ones what g gives
pub record AreTextsOf (f g : Resident → List ℕ) (rs : List Resident) (texts : List Texts) : Type 0 where
  pub first : flat_map (λ t. t.first.items) texts ≡ flat_map f rs
  pub second : flat_map (λ t. t.second.items) texts ≡ flat_map g rs
