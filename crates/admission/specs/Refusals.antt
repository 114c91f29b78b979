-- The number and the place under which a refusal is logged.
-- Assumes nothing.
use Rattle.std.specs.Prelude.{ℕ, List, [], ◌∷◌, ◌++◌, Some, None, Ok, Err, Option, Result}
use Rattle.admission.specs.declared.faults.Breach.{Breach}
use Rattle.admission.specs.declared.faults.Breach.TheVariants.{Broken, Undefined}
use Rattle.admission.specs.declared.faults.Fault.{Fault}
use Rattle.admission.specs.declared.rules.LineRule.TheVariants.{Owner, Word, StackUse, Successors, Callee, StatWrite}
use Rattle.admission.specs.declared.rules.RecordRule.TheVariants.{Kinds, EntryLines}
use Rattle.admission.specs.declared.rules.Rule.{Rule}
use Rattle.admission.specs.declared.rules.Rule.TheVariants.{Description, Sizes, Chain, Record, Entries, Line, Depth}

-- the rules of lines, and all rules, in the order in which they are checked
abbrev pub line_rules : List Rule
line_rules = Line Owner ∷ Line Word ∷ Line StackUse ∷ Line Successors ∷ Line Callee ∷ Line StatWrite ∷ []

abbrev pub later_rules : List Rule
later_rules = Record Kinds ∷ Entries ∷ Record EntryLines ∷ line_rules ++ (Depth ∷ [])

abbrev pub rules : List Rule
rules = Description ∷ Sizes ∷ Chain ∷ later_rules

abbrev pub rule_number : Rule → ℕ
rule_number Description = 1
rule_number Sizes = 2
rule_number Chain = 3
rule_number (Record Kinds) = 4
rule_number Entries = 5
rule_number (Record EntryLines) = 6
rule_number (Line Owner) = 7
rule_number (Line Word) = 8
rule_number (Line StackUse) = 9
rule_number (Line Successors) = 10
rule_number (Line Callee) = 11
rule_number (Line StatWrite) = 12
rule_number Depth = 13

-- a word that is no instruction breaks the rule on words
abbrev pub broken_rule : Breach → Rule
broken_rule (Broken rule) = rule
broken_rule (Undefined e) = Line Word

abbrev pub breach_number : Breach → ℕ
breach_number b = rule_number (broken_rule b)

abbrev pub fault_log : Fault → ℕ × ℕ
fault_log f = (breach_number f.breach, f.place)

-- the log number and the place of an answer that is a refusal
abbrev pub refusal : Result ℕ Fault → Option (ℕ × ℕ)
refusal (Ok d) = None
refusal (Err f) = Some (fault_log f)
