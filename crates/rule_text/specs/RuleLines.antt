-- How a rule text is read, line by line, where there is room for so many rows. The order of the checks within a line: letter,
-- length up to k (or all), those fields, too many, full length, the other fields, the table's own checks.
use Rattle.std.specs.Prelude.{ℕ, zero, suc, ◌+◌, Bool, false, cond, ◌&&◌, ◌||◌, List, [], ◌∷◌, ◌++◌, length, Some, Ok, Err, Result, ◌==◌, nat_le, nat_lt, slice_index, slice_index_or}
use Rattle.bank.specs.declared.table_fault.TableCause.TheVariants.{BlockOutside}
use Rattle.bank.specs.Numbers.{Located}
use Rattle.bank.specs.Checks.{at_item, refused_at, width_cause}
use Rattle.lines.specs.Lines.{Line, lines_of}
use Rattle.diagrams.specs.declared.row.Row.{Row}
use Rattle.diagrams.specs.Causes.{row_cause, root_cause}
use Rattle.clauses.specs.Opening.{add_cause as clause_cause, room_cause as clause_room}
use Rattle.groups.specs.Group.{Rule}
use Rattle.groups.specs.Faults.{add_cause as group_cause, room_cause as group_room}
use Rattle.texts.specs.Faults.{Layered, Fault, at_line, line_fault, table_fault}
use Rattle.texts.specs.Fields.{plain_line, listed_line, listed_rest}
use Rattle.texts.specs.Reading.{read_lines, read_until}
use Rattle.rule_text.specs.Catalogue.{Catalogue, bare, no_catalogue}

-- the kind of a letter: W 1, S 2, N 3, D 4, C 5, K 6; any other byte 0
abbrev pub kind_of : ℕ → ℕ
kind_of b =
    cond (b == 87) 1 (cond (b == 83) 2 (cond (b == 78) 3 (cond (b == 68) 4 (cond (b == 67) 5 (cond (b == 75) 6 0)))))

-- a line of this kind may stand after one of the stage: W first and once, S at most once and next, the others in this order
abbrev pub in_turn : ℕ → ℕ → Bool
in_turn stage kind =
    cond (kind == 0) false (cond (kind == 1) (stage == 0) (cond (kind == 2) (stage == 1) (nat_le 1 stage && nat_le stage kind)))

-- what a table's check leaves: go on where it passes, or its fault
abbrev pub if_passed : Result (Unit {0}) Located → Result Catalogue Layered → Result Catalogue Layered
if_passed (Ok x) go = go
if_passed (Err f) go = Err (table_fault f)

-- the catalogue that a line makes, if the table's check passes
abbrev pub checked : Result (Unit {0}) Located → Catalogue → Result Catalogue Layered
checked r c = if_passed r (Ok c)

-- W: the number of options; without an S line the block is all of them
abbrev pub read_width : Catalogue → List ℕ → Result Catalogue Layered
read_width c fs = checked (width_cause (slice_index_or fs 0 0)) (bare 1 (slice_index_or fs 0 0))

-- S: the first option and the size of the block, which has an option and ends within W
abbrev pub block_cause : ℕ → ℕ → ℕ → Result (Unit {0}) Located
block_cause width first size = refused_at BlockOutside (at_item (size == 0 || nat_lt width (first + size)) 0)

abbrev pub read_block : Catalogue → List ℕ → Result Catalogue Layered
read_block c fs =
    let first = slice_index_or fs 0 0 in
    let size = slice_index_or fs 1 0 in
    checked (block_cause c.width first size)
    (record { stage = 2; width = c.width; first = first; size = size; rows = []; roots = []; clauses = c.clauses; groups = c.groups })

-- N: one row more
abbrev pub row_from : List ℕ → Row
row_from fs = record { option = slice_index fs 0; low = slice_index fs 1; high = slice_index fs 2 }

abbrev pub read_row : ℕ → Catalogue → List ℕ → Result Catalogue Layered
read_row room c fs =
    checked (row_cause room c.size c.rows (length c.rows) (row_from fs))
    (record { stage = 3; width = c.width; first = c.first; size = c.size; rows = c.rows ++ (row_from fs ∷ []); roots = c.roots; clauses = c.clauses; groups = c.groups })

-- D: one root more
abbrev pub read_root : Catalogue → List ℕ → Result Catalogue Layered
read_root c fs =
    checked (root_cause (length c.rows) (length c.roots) (slice_index fs 0))
    (record { stage = 4; width = c.width; first = c.first; size = c.size; rows = c.rows; roots = c.roots ++ (slice_index fs 0 ∷ []); clauses = c.clauses; groups = c.groups })

-- C: one clause more, of its literals
abbrev pub read_literals : Catalogue → List ℕ → Result Catalogue Layered
read_literals c ls =
    checked (clause_cause c.width (length c.clauses) ls)
    (record { stage = 5; width = c.width; first = c.first; size = c.size; rows = c.rows; roots = c.roots; clauses = c.clauses ++ (ls ∷ []); groups = c.groups })

abbrev pub read_clause : Catalogue → Line → Result Catalogue Layered
read_clause c l =
    listed_line 1 l (λ fs. if_passed (clause_room (length c.clauses) (slice_index fs 0)) (listed_rest 1 (slice_index fs 0) l (read_literals c)))

-- K: one group more, of lo, hi and its options
abbrev pub group_from : List ℕ → List ℕ → Rule
group_from fs os = record { lo = slice_index fs 0; hi = slice_index fs 1; options = os }

abbrev pub read_options : Catalogue → List ℕ → List ℕ → Result Catalogue Layered
read_options c fs os =
    checked (group_cause c.width (length c.groups) (group_from fs os))
    (record { stage = 6; width = c.width; first = c.first; size = c.size; rows = c.rows; roots = c.roots; clauses = c.clauses; groups = c.groups ++ (group_from fs os ∷ []) })

abbrev pub read_group : Catalogue → Line → Result Catalogue Layered
read_group c l =
    listed_line 3 l (λ fs. if_passed (group_room (length c.groups) (slice_index fs 2)) (listed_rest 3 (slice_index fs 2) l (read_options c fs)))

-- one line of a known kind, in turn
abbrev pub read_kind : ℕ → ℕ → Catalogue → Line → Result Catalogue Layered
read_kind room zero c l = Err (line_fault 21)
read_kind room (suc zero) c l = plain_line 1 l (read_width c)
read_kind room (suc (suc zero)) c l = plain_line 2 l (read_block c)
read_kind room (suc (suc (suc zero))) c l = plain_line 3 l (read_row room c)
read_kind room (suc (suc (suc (suc zero)))) c l = plain_line 1 l (read_root c)
read_kind room (suc (suc (suc (suc (suc zero))))) c l = read_clause c l
read_kind room (suc (suc (suc (suc (suc (suc n)))))) c l = read_group c l

-- one line; an empty one has no letter
unfoldable pub read_rule : ℕ → Catalogue → Line → Result Catalogue Layered
read_rule room c l =
    cond (in_turn c.stage (kind_of (slice_index l.bytes 0))) (read_kind room (kind_of (slice_index l.bytes 0)) c l) (Err (line_fault 21))

-- after the last line; a text without lines has no letter at line 1
abbrev pub finished : Catalogue → Result Catalogue Fault
finished c = cond (c.stage == 0) (Err (at_line 1 (Some 1) (line_fault 21))) (Ok c)

abbrev pub if_read : Result Catalogue Fault → Result Catalogue Fault
if_read (Ok c) = finished c
if_read (Err f) = Err f

-- a whole rule text
abbrev pub rules_text : ℕ → List ℕ → Result Catalogue Fault
rules_text room text = if_read (read_lines 1 (read_rule room) 1 no_catalogue (lines_of text))

-- the catalogue where the reading stops: after the last line, or before the first that is at fault
abbrev pub rules_until : ℕ → List ℕ → Catalogue
rules_until room text = read_until (read_rule room) no_catalogue (lines_of text)
