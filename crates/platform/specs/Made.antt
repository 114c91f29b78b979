-- What a store was made of.
-- Assumes nothing.
use Rattle.platform.specs.declared.joined_store.JoinedStore.{JoinedStore}
use Rattle.platform.specs.declared.number_store.NumberStore.{NumberStore}
use Rattle.platform.specs.declared.numbers.Numbers.{Ghosts}

-- the numbers that are read as its words
abbrev pub numbers_of : {N : Type 0} {how : Ghosts N} → NumberStore N how → N
numbers_of s = s.numbers

-- the store whose words come first, and the one whose words follow
abbrev pub first_of : {A B : Type 0} → JoinedStore A B → A
first_of s = s.first

abbrev pub second_of : {A B : Type 0} → JoinedStore A B → B
second_of s = s.second
