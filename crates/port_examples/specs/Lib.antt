pub mod Packets
pub mod Acknowledgements
pub mod PipeAlone
pub mod PipeOut
pub mod PortExamples
