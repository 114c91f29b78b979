-- The thirteen rules, each as what it says of a place: a record's index, an address, or 0 where a rule has no places.
-- Assumes nothing.
use Rattle.std.specs.Prelude.{◌≡◌, ℕ, ◌+◌, ◌*◌, ◌<◌, ◌≤◌, ◌⊎◌, length, Some, Ok, Option, ◌≢◌}
use Rattle.words.specs.Decoding.{decoded}
use Rattle.words.specs.declared.conditions.Condition.{Condition}
use Rattle.words.specs.declared.conditions.Condition.TheVariants.{Always}
use Rattle.words.specs.declared.instructions.Instruction.{Instruction}
use Rattle.words.specs.declared.instructions.Instruction.TheVariants.{Push, Pop, Ret, Reti, Jump, Call, Calls}
use Rattle.words.specs.declared.instructions.Target.{Target}
use Rattle.words.specs.declared.instructions.Target.TheVariants.{Address, Ip}
use Rattle.words.specs.declared.registers.Register.TheVariants.{Stat}
use Rattle.platform.specs.Description.{InLimits, vector}
use Rattle.admission.specs.Chain.{OnChain, Chained}
use Rattle.admission.specs.Instructions.{destination}
use Rattle.admission.specs.Program.{Program}
use Rattle.admission.specs.Tables.{records, entry, kind, need, next, line, owner, height}
use Rattle.admission.specs.declared.kinds.Kind.{Kind}
use Rattle.admission.specs.declared.kinds.Kind.TheVariants.{Background, Quiet, Interrupt, Open}
use Rattle.admission.specs.declared.rules.LineRule.TheVariants.{Owner, Word, StackUse, Successors, Callee, StatWrite}
use Rattle.admission.specs.declared.rules.RecordRule.TheVariants.{Kinds, EntryLines}
use Rattle.admission.specs.declared.rules.Rule.{Rule}
use Rattle.admission.specs.declared.rules.Rule.TheVariants.{Description, Sizes, Chain, Record, Entries, Line, Depth}

-- kinds 2 and 4 can be called, and from kinds 2 and 3 only kind 2
abbrev pub MayCall : Option Kind → Option Kind → Type 0
MayCall caller callee = ((callee ≡ Some Quiet) ⊎ (callee ≡ Some Open)) × ((caller ≡ Some Quiet) ⊎ (caller ≡ Some Interrupt) → callee ≡ Some Quiet)

module _ (P : Program) where
  -- a chained record of a kind
  abbrev pub Routine : Kind → ℕ → Type 0
  Routine κ k = Chained P.table k × (kind P.table k ≡ Some κ)

  -- the table has four numbers to a record and one before them, and there is a line for each word
  pub record Sized : Type 0 where
    pub count : ℕ
    pub some : 1 ≤ count
    pub few : count ≤ 255
    pub numbers : length P.table ≡ 4 * count + 1
    pub lines : length P.lines ≡ P.count

  -- the index after k on the chain: 0 at its end, or above k and that of a record
  abbrev pub Linked : ℕ → Type 0
  Linked k = ((1 ≤ k) × (next P.table k ≡ 0)) ⊎ ((k < next P.table k) × (next P.table k ≤ records P.table))

  abbrev pub KnownKind : ℕ → Type 0
  KnownKind k = ((κ : Kind) × (kind P.table k ≡ Some κ)) × (need P.table k ≤ 16)

  -- one background, which is entered at 0, and three interrupt routines, one at each vector
  pub record Entered : Type 0 where
    pub background : ℕ
    pub first : Routine Background background × (entry P.table background ≡ 0)
    pub one : (k : ℕ) → Routine Background k → k ≡ background
    pub level : ℕ → ℕ
    pub vectors : (i : ℕ) → i < 3 → Routine Interrupt (level i) × (entry P.table (level i) ≡ vector P.description i)
    pub three : (k : ℕ) → Routine Interrupt k → (i : ℕ) × (i < 3) × (k ≡ level i)

  -- the entry is in the program, and its line is that of the record at height 0
  abbrev pub EntryLine : ℕ → Type 0
  EntryLine k = (entry P.table k < P.count) × (line P.lines (entry P.table k) ≡ 32 * k)

  -- the word at a may be run
  abbrev pub Owned : ℕ → Type 0
  Owned a = (a < P.count) × (line P.lines a ≢ 0)

  abbrev pub owner_of : ℕ → ℕ
  owner_of a = owner P.lines a

  abbrev pub kind_at : ℕ → Option Kind
  kind_at a = kind P.table (owner_of a)

  abbrev pub height_at : ℕ → ℕ
  height_at a = height P.lines a

  abbrev pub SoundOwner : ℕ → Type 0
  SoundOwner a = Chained P.table (owner_of a) × (height_at a ≤ need P.table (owner_of a))

  -- the word at a is the instruction i
  abbrev pub At : ℕ → Instruction → Type 0
  At a i = decoded (P.word a) ≡ Ok i

  -- the word at a is no CALLS, and no jump or call through ip
  pub record Permitted (a : ℕ) : Type 0 where
    pub instruction : Instruction
    pub at : At a instruction
    pub no_calls : (t : Target) → instruction ≢ Calls t
    pub no_call_ip : instruction ≡ Call Ip → ⊥
    pub no_jump_ip : (cc : Condition) → instruction ≢ Jump cc Ip

  -- POP has a word to take; RET ends a routine that is called, and RETI an interrupt routine, with none of its words left
  pub record SoundStack (a : ℕ) : Type 0 where
    pub pop : At a Pop → 1 ≤ height_at a
    pub ret : At a Ret → ((kind_at a ≡ Some Quiet) ⊎ (kind_at a ≡ Some Open)) × (height_at a ≡ 0)
    pub reti : At a Reti → (kind_at a ≡ Some Interrupt) × (height_at a ≡ 0)

  -- b is in the program, and has the owner of a and the height h
  abbrev pub Leads : ℕ → ℕ → ℕ → Type 0
  Leads a b h = (b < P.count) × (owner_of b ≡ owner_of a) × (height_at b ≡ h)

  -- after the word at a, the stack of its owner has the height h
  pub record Leaves (a h : ℕ) : Type 0 where
    pub push : At a Push → h ≡ height_at a + 1
    pub pop : At a Pop → h + 1 ≡ height_at a
    pub other : (At a Push → ⊥) → (At a Pop → ⊥) → h ≡ height_at a

  -- the word at a is an instruction other than JUMP, RET and RETI, so the next word may be run after it
  pub record GoesOn (a : ℕ) : Type 0 where
    pub instruction : Instruction
    pub at : At a instruction
    pub no_jump : (t : Target) → At a (Jump Always t) → ⊥
    pub no_ret : At a Ret → ⊥
    pub no_reti : At a Reti → ⊥

  pub record SoundSuccessors (a : ℕ) : Type 0 where
    pub next : GoesOn a → (h : ℕ) × Leaves a h × Leads a (a + 1) h
    pub target : (cc : Condition) (t : ℕ) → At a (Jump cc (Address t)) → Leads a t (height_at a)

  -- a CALL goes to the entry of a chained record, with words enough for the return address and all that it uses
  pub record SoundCall (a t : ℕ) : Type 0 where
    pub callee : ℕ
    pub reached : Chained P.table callee
    pub entered : entry P.table callee ≡ t
    pub kinds : MayCall (kind_at a) (kind P.table callee)
    pub words : height_at a + 1 + need P.table callee ≤ need P.table (owner_of a)

  abbrev pub WritesStat : ℕ → Type 0
  WritesStat a = (i : Instruction) × At a i × (destination i ≡ Some Stat)

  -- the background's words, a return address, and those of any interrupt routine
  abbrev pub FitsDepth : Type 0
  FitsDepth = (b k : ℕ) → Routine Background b → Routine Interrupt k → need P.table b + 1 + need P.table k ≤ P.description.depth

  -- a rule holds at a place; the rules stand here in the order of their numbers, 1 to 13
  abbrev pub Holds : Rule → ℕ → Type 0
  Holds Description p = p ≡ 0 → InLimits P.description
  Holds Sizes p = p ≡ 0 → Sized
  Holds Chain p = OnChain P.table p → Linked p
  Holds (Record Kinds) p = Chained P.table p → KnownKind p
  Holds Entries p = p ≡ 0 → Entered
  Holds (Record EntryLines) p = Chained P.table p → EntryLine p
  Holds (Line Owner) p = Owned p → SoundOwner p
  Holds (Line Word) p = Owned p → Permitted p
  Holds (Line StackUse) p = Owned p → SoundStack p
  Holds (Line Successors) p = Owned p → SoundSuccessors p
  Holds (Line Callee) p = Owned p → (t : ℕ) → At p (Call (Address t)) → SoundCall p t
  Holds (Line StatWrite) p = Owned p → WritesStat p → (kind_at p ≡ Some Background) ⊎ (kind_at p ≡ Some Open)
  Holds Depth p = p ≡ 0 → FitsDepth

  -- d words are what the table declares at most: the background's, a return address, and those of the interrupt routine that
  -- needs most
  pub record Deepest (d : ℕ) : Type 0 where
    pub background : ℕ
    pub is_background : Routine Background background
    pub interrupt : ℕ
    pub is_interrupt : Routine Interrupt interrupt
    pub sum : need P.table background + 1 + need P.table interrupt ≡ d
    pub largest : (k : ℕ) → Routine Interrupt k → need P.table k ≤ need P.table interrupt
