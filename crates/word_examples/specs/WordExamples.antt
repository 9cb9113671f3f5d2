-- What is computed of the table words: proofs/WordExamples.antt has its one value.
-- Assumes nothing.
use Rattle.word_examples.specs.Words.{WordsComputed}

pub record WordExamples : Type 0 where
  pub words : WordsComputed
