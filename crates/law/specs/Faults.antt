-- What a refused call reports.
use Rattle.std.specs.Prelude.{ℕ}
use Rattle.text.specs.Faults.{text_fault_number, text_fault_place}
use Rattle.law.specs.declared.faults.CallFault.{CallFault}
use Rattle.law.specs.declared.faults.CallFault.TheVariants.{SlabLength, NoSuchTrack, AlreadyOpen, LateTick, BadK, BadLongest, BadCap, NoRoom, NotOpen, EarlyTick, Text, Unsound, OverCap, Full, BadWindow, NoWindow}

-- the number of a refusal
abbrev pub call_fault_number : CallFault → ℕ
call_fault_number SlabLength = 4
call_fault_number NoSuchTrack = 5
call_fault_number AlreadyOpen = 6
call_fault_number LateTick = 7
call_fault_number BadK = 8
call_fault_number BadLongest = 9
call_fault_number BadCap = 10
call_fault_number (NoRoom room) = 11
call_fault_number (NotOpen track) = 12
call_fault_number (EarlyTick track) = 13
call_fault_number (Text fault) = text_fault_number fault
call_fault_number (Unsound track) = 16
call_fault_number (OverCap track) = 17
call_fault_number (Full track) = 16
call_fault_number (BadWindow track) = 18
call_fault_number NoWindow = 18

-- its place: the room, the track, the text's own place, or 0
abbrev pub call_fault_place : CallFault → ℕ
call_fault_place SlabLength = 0
call_fault_place NoSuchTrack = 0
call_fault_place AlreadyOpen = 0
call_fault_place LateTick = 0
call_fault_place BadK = 0
call_fault_place BadLongest = 0
call_fault_place BadCap = 0
call_fault_place (NoRoom room) = room
call_fault_place (NotOpen track) = track
call_fault_place (EarlyTick track) = track
call_fault_place (Text fault) = text_fault_place fault
call_fault_place (Unsound track) = track
call_fault_place (OverCap track) = track
call_fault_place (Full track) = track
call_fault_place (BadWindow track) = track
call_fault_place NoWindow = 0
