-- The paper's numbers of what is wrong, and what is wrong by its number. A number of none is taken for 105's: no list of rules has one (`named`).
-- Assumes nothing.
use Rattle.std.specs.Prelude.{ℕ, Bool, false, ◌||◌, List, [], ◌∷◌, eqb, cond}
use Rattle.wire.specs.declared.refusals.Refusal.{Refusal}
use Rattle.wire.specs.declared.refusals.Refusal.TheVariants as R

abbrev pub number_of : Refusal → ℕ
number_of R.BadArgument = 1
number_of R.TooShort = 2
number_of R.NotBcd = 3
number_of R.BadLength = 4
number_of R.BadCrc = 5
number_of R.OtherAddress = 6
number_of R.OtherFunction = 7
number_of R.OtherId = 8
number_of R.OnItsWay = 9
number_of R.UnknownFunction = 10
number_of R.BadBody = 11
number_of R.BadMask = 12
number_of R.BadDate = 13
number_of R.BadArchiveType = 14
number_of R.BadStatus = 15
number_of R.NoRoom = 16
number_of R.TooLong = 17
number_of R.Unfit = 20
number_of R.ShortFrame = 21
number_of R.WrongSize = 22
number_of R.BadPart = 23
number_of R.WrongPartCrc = 24
number_of R.BadFlags = 25
number_of R.OtherSession = 26
number_of R.NothingUnderWay = 27
number_of R.StartElsewhere = 28
number_of R.BelowCount = 29
number_of R.AboveCount = 30
number_of R.BeyondBuffer = 31
number_of R.BadFile = 32
number_of R.BadLargest = 33
number_of R.PastEnd = 34
number_of R.OtherType = 35
number_of R.BadText = 36
number_of R.BadLengths = 37
number_of R.WrongDatagramCrc = 38
number_of R.Compressed = 39
number_of R.ShortEnvelope = 40
number_of R.LongEnvelope = 41
number_of R.OtherProtocol = 42
number_of R.WrongLengthField = 43
number_of R.WrongCrc = 44
number_of R.OtherCardLength = 50
number_of R.SpareSet = 51
number_of R.BadCardAddress = 52
number_of R.BadTime = 53
number_of R.UpperHalfSet = 54
number_of R.BadChannel = 55
number_of R.BadArchiveKind = 56
number_of R.NotCurrent = 57
number_of R.ShortLine = 60
number_of R.LongLine = 61
number_of R.BadMarks = 62
number_of R.BadCharacters = 63
number_of R.WrongLrc = 64
number_of R.NothingPresent = 71
number_of R.BelowEarlier = 72
number_of R.NotTaken = 73
number_of R.BadCount = 80
number_of R.OtherRecordType = 81
number_of R.BadRecord = 82
number_of R.BadRecordLength = 83
number_of R.BadDescriptor = 84
number_of R.OtherTag = 90
number_of R.OtherAttribute = 91
number_of R.BadQuote = 92
number_of R.NoLineEnd = 93
number_of R.NoAddress = 100
number_of R.NoSlot = 101
number_of R.EmptySlot = 102
number_of R.AddressPresent = 103
number_of R.NoEmptySlot = 104
number_of R.NobodyDue = 105

-- all of them
abbrev pub refusals : List Refusal
refusals =
    R.BadArgument ∷ R.TooShort ∷ R.NotBcd ∷ R.BadLength ∷ R.BadCrc ∷ R.OtherAddress ∷ R.OtherFunction ∷ R.OtherId ∷ R.OnItsWay ∷ R.UnknownFunction ∷
    R.BadBody ∷ R.BadMask ∷ R.BadDate ∷ R.BadArchiveType ∷ R.BadStatus ∷ R.NoRoom ∷ R.TooLong ∷ R.Unfit ∷ R.ShortFrame ∷ R.WrongSize ∷ R.BadPart ∷
    R.WrongPartCrc ∷ R.BadFlags ∷ R.OtherSession ∷ R.NothingUnderWay ∷ R.StartElsewhere ∷ R.BelowCount ∷ R.AboveCount ∷ R.BeyondBuffer ∷ R.BadFile ∷
    R.BadLargest ∷ R.PastEnd ∷ R.OtherType ∷ R.BadText ∷ R.BadLengths ∷ R.WrongDatagramCrc ∷ R.Compressed ∷ R.ShortEnvelope ∷ R.LongEnvelope ∷
    R.OtherProtocol ∷ R.WrongLengthField ∷ R.WrongCrc ∷ R.OtherCardLength ∷ R.SpareSet ∷ R.BadCardAddress ∷ R.BadTime ∷ R.UpperHalfSet ∷
    R.BadChannel ∷ R.BadArchiveKind ∷ R.NotCurrent ∷ R.ShortLine ∷ R.LongLine ∷ R.BadMarks ∷ R.BadCharacters ∷ R.WrongLrc ∷ R.NothingPresent ∷
    R.BelowEarlier ∷ R.NotTaken ∷ R.BadCount ∷ R.OtherRecordType ∷ R.BadRecord ∷ R.BadRecordLength ∷ R.BadDescriptor ∷ R.OtherTag ∷
    R.OtherAttribute ∷ R.BadQuote ∷ R.NoLineEnd ∷ R.NoAddress ∷ R.NoSlot ∷ R.EmptySlot ∷ R.AddressPresent ∷ R.NoEmptySlot ∷ R.NobodyDue ∷ []

-- whether one of these has the number n, and which
abbrev pub has_number : ℕ → List Refusal → Bool
has_number n [] = false
has_number n (r ∷ rs) = eqb (number_of r) n || has_number n rs

abbrev pub with_number : ℕ → Refusal → List Refusal → Refusal
with_number n last [] = last
with_number n last (r ∷ rs) = cond (eqb (number_of r) n) r (with_number n last rs)

unfoldable pub refusal : ℕ → Refusal
refusal n = with_number n R.NobodyDue refusals
