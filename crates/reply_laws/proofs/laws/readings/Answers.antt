use Rattle.reply_laws.proofs.Together.{replies_agree}
use Rattle.reply_laws.proofs.Together.{readings_agree}
use Rattle.reply_laws.proofs.laws.readings.Goals as goal

pub returns-clause-words : goal.returns-clause-words
returns-clause-words c = readings_agree

pub returns-clause-replies : goal.returns-clause-replies
returns-clause-replies c = replies_agree
