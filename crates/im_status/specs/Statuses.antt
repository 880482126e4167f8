-- How the ends of a run are told.
use Rattle.std.specs.Prelude.{ℕ, List, [], ◌++◌, codes, Result, Ok as Done, Err}
use Rattle.std.specs.Fmt.{decimal}
use Rattle.im_dealing.specs.declared.errors.LineError.{LineError}
use Rattle.im_dealing.specs.declared.errors.LineError.TheVariants as line
use Rattle.im_dealing.specs.declared.errors.Stopped.{Stopped}
use Rattle.im_dealing.specs.declared.errors.Stopped.TheVariants as stops
use Rattle.im_opening.specs.declared.errors.OpenError.{OpenError}
use Rattle.im_opening.specs.declared.errors.OpenError.TheVariants as opened
use Rattle.im_sqlmodel.specs.declared.answers.KeptError.{KeptError}
use Rattle.im_sqlmodel.specs.declared.answers.KeptError.TheVariants as judged
use Rattle.im_verify.specs.declared.ended.Ended.{Ended}
use Rattle.im_verify.specs.declared.ended.Ended.TheVariants as ended
use Rattle.im_verify.specs.declared.show.ShowEnd.{ShowEnd}
use Rattle.im_verify.specs.declared.show.ShowEnd.TheVariants as shows
use Rattle.im_status.specs.Damages.{damage_words}
use Rattle.im_status.specs.declared.status.Status.{Status}
use Rattle.im_status.specs.declared.status.Status.TheVariants.{Ok, Usage, Script, ReadFault, WriteFault, DiskFault, Damaged, KeeperFault, Refused, Forked, Memory, Long, Kept, SqlKept}

-- the program's exit status
unfoldable pub code_of : Status → ℕ
code_of Ok = 0
code_of Usage = 2
code_of (Script line) = 3
code_of ReadFault = 4
code_of WriteFault = 5
code_of DiskFault = 6
code_of (Damaged damage) = 7
code_of KeeperFault = 8
code_of Refused = 9
code_of Forked = 10
code_of Memory = 11
code_of Long = 12
code_of (Kept line) = 13
code_of (SqlKept tx) = 14

-- the words on standard error, where something is said there
unfoldable pub words_of : Status → List ℕ
words_of Ok = []
words_of Usage = codes "usage"
words_of (Script line) = codes "script"
words_of ReadFault = codes "read fault"
words_of WriteFault = codes "write fault"
words_of DiskFault = codes "disk fault"
words_of (Damaged damage) = codes "damaged"
words_of KeeperFault = codes "keeper fault"
words_of Refused = codes "refused"
words_of Forked = codes "forked"
words_of Memory = codes "memory"
words_of Long = codes "long"
words_of (Kept line) = codes "kept"
words_of (SqlKept tx) = codes "sql"

-- what stands behind the words: the number of a line or of a transaction, or what is said of a damage
unfoldable pub behind_words : Status → List ℕ
behind_words (Script line) = codes " " ++ decimal line
behind_words (Damaged damage) = codes " " ++ damage_words damage
behind_words (Kept line) = codes " " ++ decimal line
behind_words (SqlKept tx) = codes " " ++ decimal tx
behind_words _ = []

-- all that is said on standard error at an end: nothing where all was done, and else one line
unfoldable pub text_of : Status → List ℕ
text_of Ok = []
text_of status = codes "im: " ++ words_of status ++ behind_words status ++ codes "\n"

-- words that ask for a run end so, where clap refuses them too
abbrev pub EndsRun : Status → Type 0
EndsRun Ok = Unit {0}
EndsRun Usage = Unit {0}
EndsRun (Script line) = Unit {0}
EndsRun ReadFault = Unit {0}
EndsRun WriteFault = Unit {0}
EndsRun DiskFault = Unit {0}
EndsRun (Damaged damage) = Unit {0}
EndsRun KeeperFault = ⊥
EndsRun Refused = ⊥
EndsRun Forked = ⊥
EndsRun Memory = Unit {0}
EndsRun Long = Unit {0}
EndsRun (Kept line) = ⊥
EndsRun (SqlKept tx) = Unit {0}

-- words that ask for `verify` end so, where clap refuses them too
abbrev pub EndsVerify : Status → Type 0
EndsVerify Ok = Unit {0}
EndsVerify Usage = Unit {0}
EndsVerify (Script line) = ⊥
EndsVerify ReadFault = Unit {0}
EndsVerify WriteFault = Unit {0}
EndsVerify DiskFault = ⊥
EndsVerify (Damaged damage) = ⊥
EndsVerify KeeperFault = Unit {0}
EndsVerify Refused = Unit {0}
EndsVerify Forked = Unit {0}
EndsVerify Memory = Unit {0}
EndsVerify Long = Unit {0}
EndsVerify (Kept line) = Unit {0}
EndsVerify (SqlKept tx) = ⊥

-- words that ask for `show` end so, where clap refuses them too
abbrev pub EndsShow : Status → Type 0
EndsShow Ok = Unit {0}
EndsShow Usage = Unit {0}
EndsShow (Script line) = ⊥
EndsShow ReadFault = ⊥
EndsShow WriteFault = Unit {0}
EndsShow DiskFault = ⊥
EndsShow (Damaged damage) = ⊥
EndsShow KeeperFault = Unit {0}
EndsShow Refused = ⊥
EndsShow Forked = ⊥
EndsShow Memory = Unit {0}
EndsShow Long = ⊥
EndsShow (Kept line) = Unit {0}
EndsShow (SqlKept tx) = ⊥

-- words that ask for a generated script end so, where clap refuses them too
abbrev pub EndsGenerated : Status → Type 0
EndsGenerated Ok = Unit {0}
EndsGenerated Usage = Unit {0}
EndsGenerated (Script line) = ⊥
EndsGenerated ReadFault = ⊥
EndsGenerated WriteFault = Unit {0}
EndsGenerated DiskFault = ⊥
EndsGenerated (Damaged damage) = ⊥
EndsGenerated KeeperFault = ⊥
EndsGenerated Refused = ⊥
EndsGenerated Forked = ⊥
EndsGenerated Memory = Unit {0}
EndsGenerated Long = ⊥
EndsGenerated (Kept line) = ⊥
EndsGenerated (SqlKept tx) = ⊥

-- reading a script ends so where it gives no lines
abbrev pub EndsReading : Status → Type 0
EndsReading Ok = ⊥
EndsReading Usage = ⊥
EndsReading (Script line) = Unit {0}
EndsReading ReadFault = Unit {0}
EndsReading WriteFault = ⊥
EndsReading DiskFault = ⊥
EndsReading (Damaged damage) = ⊥
EndsReading KeeperFault = ⊥
EndsReading Refused = ⊥
EndsReading Forked = ⊥
EndsReading Memory = Unit {0}
EndsReading Long = Unit {0}
EndsReading (Kept line) = ⊥
EndsReading (SqlKept tx) = ⊥

-- a run whose script was read ends so
abbrev pub EndsWriting : Status → Type 0
EndsWriting Ok = Unit {0}
EndsWriting Usage = ⊥
EndsWriting (Script line) = ⊥
EndsWriting ReadFault = ⊥
EndsWriting WriteFault = Unit {0}
EndsWriting DiskFault = Unit {0}
EndsWriting (Damaged damage) = Unit {0}
EndsWriting KeeperFault = ⊥
EndsWriting Refused = ⊥
EndsWriting Forked = ⊥
EndsWriting Memory = Unit {0}
EndsWriting Long = ⊥
EndsWriting (Kept line) = ⊥
EndsWriting (SqlKept tx) = Unit {0}

-- the status of a disk that wasn't opened
abbrev pub status_by : OpenError → Status
status_by opened.DiskFault = DiskFault
status_by (opened.Damaged damage) = Damaged damage
status_by opened.Memory = Memory

-- the status of a disk whose keys that begin with octet 00 aren't known to be SQL's
abbrev pub status_kept : KeptError → Status
status_kept judged.Memory = Memory
status_kept (judged.NotKept tx) = SqlKept tx

-- the status of a line that got no reply
abbrev pub status_for : LineError → Status
status_for line.DiskFault = DiskFault
status_for line.Memory = Memory

-- how a run ends: the line without a reply decides, and else whether the replies were written
abbrev pub status_behind : Result Unit Stopped → Status
status_behind (Done done) = Ok
status_behind (Err (stops.Line why)) = status_for why
status_behind (Err stops.Write) = WriteFault

-- a run ends so only behind a script of the grammar
abbrev pub EndsGiven : Status → Type 0
EndsGiven Ok = Unit {0}
EndsGiven Usage = ⊥
EndsGiven (Script line) = ⊥
EndsGiven ReadFault = ⊥
EndsGiven WriteFault = Unit {0}
EndsGiven DiskFault = Unit {0}
EndsGiven (Damaged damage) = Unit {0}
EndsGiven KeeperFault = ⊥
EndsGiven Refused = ⊥
EndsGiven Forked = ⊥
EndsGiven Memory = ⊥
EndsGiven Long = ⊥
EndsGiven (Kept line) = ⊥
EndsGiven (SqlKept tx) = Unit {0}

-- the status of an end of `verify`
abbrev pub status_ended : Ended → Status
status_ended ended.Ok = Ok
status_ended ended.Refused = Refused
status_ended ended.Forked = Forked
status_ended ended.ReadFault = ReadFault
status_ended ended.WriteFault = WriteFault
status_ended ended.KeeperFault = KeeperFault
status_ended ended.Memory = Memory
status_ended ended.Long = Long
status_ended (ended.Kept line) = Kept line

-- the status of an end of `show`
abbrev pub status_shown : ShowEnd → Status
status_shown shows.Ok = Ok
status_shown shows.WriteFault = WriteFault
status_shown shows.KeeperFault = KeeperFault
status_shown shows.Memory = Memory
status_shown (shows.Kept line) = Kept line
