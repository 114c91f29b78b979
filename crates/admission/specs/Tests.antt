-- The thirteen rules as tests, each at a place: a record's index, an address, or 0 where a rule has no places.
-- `Rules` says the same as statements.
-- Assumes nothing.
use Rattle.std.specs.Prelude.{ℕ, ◌+◌, ◌*◌, ◌%◌, Bool, true, false, cond, not, ◌&&◌, ◌||◌, List, length, is_some, Some, None, Ok, Err, Option, Result, ◌==◌, nat_le, nat_lt}
use Rattle.std.specs.Option.{unwrap_or}
use Rattle.std.specs.Result.{result_err}
use Rattle.words.specs.Decoding.{decoded}
use Rattle.words.specs.declared.errors.DecodeError.{DecodeError}
use Rattle.words.specs.declared.instructions.Instruction.{Instruction}
use Rattle.words.specs.declared.registers.Register.{Register}
use Rattle.words.specs.declared.registers.Register.TheVariants.{I0l, I0h, I1l, I1h, I2l, I2h, I3l, I3h, Ipl, Iph, Stat, R3, R2, R1, R0, A}
use Rattle.admission.specs.Chain.{chained}
use Rattle.admission.specs.Instructions.{Flow, plain, push, pop, ret, reti, jump, call, calls, flow, permitted, goes_on, jump_target, call_target, destination}
use Rattle.admission.specs.Roles.{is}
use Rattle.admission.specs.Tables.{records, entry, kind, need, line, owner, height}
use Rattle.admission.specs.declared.faults.Breach.{Breach}
use Rattle.admission.specs.declared.faults.Breach.TheVariants.{Broken, Undefined}
use Rattle.admission.specs.declared.kinds.Kind.{Kind}
use Rattle.admission.specs.declared.kinds.Kind.TheVariants.{Background, Quiet, Interrupt, Open}
use Rattle.admission.specs.declared.rules.LineRule.{LineRule}
use Rattle.admission.specs.declared.rules.LineRule.TheVariants.{Owner, Word, StackUse, Successors, Callee, StatWrite}
use Rattle.admission.specs.declared.rules.RecordRule.{RecordRule}
use Rattle.admission.specs.declared.rules.RecordRule.TheVariants.{Kinds, EntryLines}
use Rattle.admission.specs.declared.rules.Rule.TheVariants.{Line}

abbrev pub sized : ℕ → List ℕ → List ℕ → Bool
sized n T L = (length T % 4 == 1 && (nat_le 1 (records T) && nat_le (records T) 255)) && length L == n

-- Rules of a chained record.

abbrev pub record_test : RecordRule → ℕ → List ℕ → List ℕ → ℕ → Bool
record_test Kinds n T L k = is_some (kind T k) && nat_le (need T k) 16
record_test EntryLines n T L k = nat_lt (entry T k) n && line L (entry T k) == 32 * k

abbrev pub record_sound : RecordRule → ℕ → List ℕ → List ℕ → ℕ → Bool
record_sound rule n T L k = not (chained T k) || record_test rule n T L k

-- Rules of a line: what is wrong with the word w at the address a, if anything is.

abbrev pub owner_sound : List ℕ → List ℕ → ℕ → Bool
owner_sound T L a = chained T (owner L a) && nat_le (height L a) (need T (owner L a))

abbrev pub stack_sound : Flow → Option Kind → ℕ → Bool
stack_sound plain κ h = true
stack_sound push κ h = true
stack_sound pop κ h = nat_le 1 h
stack_sound ret κ h = (is κ Quiet || is κ Open) && h == 0
stack_sound reti κ h = is κ Interrupt && h == 0
stack_sound (jump cc t) κ h = true
stack_sound (call t) κ h = true
stack_sound calls κ h = true

-- the height h becomes g: PUSH leaves one more, POP one less
abbrev pub moves : Flow → ℕ → ℕ → Bool
moves plain h g = g == h
moves push h g = g == h + 1
moves pop h g = g + 1 == h
moves ret h g = g == h
moves reti h g = g == h
moves (jump cc t) h g = g == h
moves (call t) h g = g == h
moves calls h g = g == h

-- from the word at a to that at b, which has the same owner and the height that is left
abbrev pub leads : ℕ → List ℕ → Flow → ℕ → ℕ → Bool
leads n L f a b = nat_lt b n && (owner L b == owner L a && moves f (height L a) (height L b))

abbrev pub if_some : Option ℕ → (ℕ → Bool) → Bool
if_some None test = true
if_some (Some x) test = test x

abbrev pub next_sound : ℕ → List ℕ → Flow → ℕ → Bool
next_sound n L f a = not (goes_on f) || leads n L f a (a + 1)

abbrev pub target_sound : ℕ → List ℕ → Flow → ℕ → Bool
target_sound n L f a = if_some (jump_target f) (leads n L f a)

-- kinds 2 and 4 can be called, by kinds 2 and 3 only kind 2
abbrev pub may_call : Option Kind → Option Kind → Bool
may_call caller callee = is callee Quiet || (is callee Open && not (is caller Quiet || is caller Interrupt))

-- record k is entered at t, and the owner of the word at a may call it and has the words for it
abbrev pub callable : List ℕ → List ℕ → ℕ → ℕ → ℕ → Bool
callable T L a t k = (chained T k && entry T k == t) && (may_call (kind T (owner L a)) (kind T k) && nat_le (height L a + 1 + need T k) (need T (owner L a)))

-- the line of an entry names its record
abbrev pub callee_sound : List ℕ → List ℕ → ℕ → ℕ → Bool
callee_sound T L a t = callable T L a t (owner L t)

abbrev pub call_sound : List ℕ → List ℕ → Flow → ℕ → Bool
call_sound T L f a = if_some (call_target f) (callee_sound T L a)

abbrev pub is_stat : Register → Bool
is_stat I0l = false
is_stat I0h = false
is_stat I1l = false
is_stat I1h = false
is_stat I2l = false
is_stat I2h = false
is_stat I3l = false
is_stat I3h = false
is_stat Ipl = false
is_stat Iph = false
is_stat Stat = true
is_stat R3 = false
is_stat R2 = false
is_stat R1 = false
is_stat R0 = false
is_stat A = false

abbrev pub writes_stat : Option Register → Bool
writes_stat None = false
writes_stat (Some r) = is_stat r

abbrev pub stat_sound : Instruction → Option Kind → Bool
stat_sound i κ = not (writes_stat (destination i)) || (is κ Background || is κ Open)

abbrev pub unless : Bool → LineRule → Result (Unit {0}) Breach
unless sound rule = cond sound (Ok tt) (Err (Broken (Line rule)))

-- a word that is no instruction breaks the rule on words; later rules have nothing to say of it
abbrev pub word_checked : Result Instruction DecodeError → Result (Unit {0}) Breach
word_checked (Ok i) = unless (permitted (flow i)) Word
word_checked (Err e) = Err (Undefined e)

-- what the later rules ask of the instruction i at the address a
abbrev pub instruction_sound : LineRule → ℕ → List ℕ → List ℕ → Instruction → ℕ → Bool
instruction_sound Owner n T L i a = true
instruction_sound Word n T L i a = true
instruction_sound StackUse n T L i a = stack_sound (flow i) (kind T (owner L a)) (height L a)
instruction_sound Successors n T L i a = next_sound n L (flow i) a && target_sound n L (flow i) a
instruction_sound Callee n T L i a = call_sound T L (flow i) a
instruction_sound StatWrite n T L i a = stat_sound i (kind T (owner L a))

abbrev pub if_defined : Result Instruction DecodeError → LineRule → (Instruction → Bool) → Result (Unit {0}) Breach
if_defined (Ok i) rule sound = unless (sound i) rule
if_defined (Err e) rule sound = Ok tt

abbrev pub owned_checked : LineRule → ℕ → List ℕ → List ℕ → ℕ → ℕ → Result (Unit {0}) Breach
owned_checked Owner n T L w a = unless (owner_sound T L a) Owner
owned_checked Word n T L w a = word_checked (decoded w)
owned_checked StackUse n T L w a = if_defined (decoded w) StackUse (λ i. instruction_sound StackUse n T L i a)
owned_checked Successors n T L w a = if_defined (decoded w) Successors (λ i. instruction_sound Successors n T L i a)
owned_checked Callee n T L w a = if_defined (decoded w) Callee (λ i. instruction_sound Callee n T L i a)
owned_checked StatWrite n T L w a = if_defined (decoded w) StatWrite (λ i. instruction_sound StatWrite n T L i a)

abbrev pub line_checked : LineRule → ℕ → List ℕ → List ℕ → ℕ → ℕ → Result (Unit {0}) Breach
line_checked rule n T L w a = cond (line L a == 0) (Ok tt) (owned_checked rule n T L w a)

-- what is wrong with a line that breaks the rule
abbrev pub line_breach : LineRule → ℕ → List ℕ → List ℕ → ℕ → ℕ → Breach
line_breach rule n T L w a = unwrap_or (result_err (line_checked rule n T L w a)) (Broken (Line rule))
