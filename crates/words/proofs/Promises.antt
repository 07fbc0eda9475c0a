-- The promises of specs/Promises.antt, kept.
use Rattle.equations.proofs.Truth.{true_of}
use Rattle.words.specs.Words.{takes_top}
use Rattle.words.specs.Promises.{FrontReads, ReadsBack, NumbersFit}
use Rattle.words.proofs.Words.{numbers_below}
use Rattle.words.proofs.Fronts.{parted, front_words, behind_words}
use Rattle.words.proofs.Packed.{words_back}

pub front_reads : FrontReads
front_reads k ws = (parted k ws, front_words k ws, behind_words k ws)

pub reads_back : ReadsBack
reads_back kind takes xs below = words_back kind (true_of (takes_top kind) takes) xs below

pub numbers_fit : NumbersFit
numbers_fit ws = numbers_below ws
