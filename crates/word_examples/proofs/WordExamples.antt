-- All of them are as expected.
-- Assumes nothing.
use Rattle.word_examples.specs.WordExamples.{WordExamples}
use Rattle.word_examples.proofs.Words.{all_words}

pub word_examples : WordExamples
word_examples = record { words = all_words }
